-- What holds of every signal of yes and no, by trying them all.
use Rattle.std.proofs.Common.{◌≡◌, Bool, true, false, ◌&&◌, arith}
use Rattle.std.proofs.lemmas.Bool.{and_parts}
use Rattle.kit.specs.declared.signal.Signal.{Signal}
use Rattle.kit.specs.declared.signal.Signal.TheVariants.{Unknown, Absent, Present}
use Rattle.kit.specs.Order.{◌⊑◌}

-- the order as a test
abbrev pub below : Signal Bool → Signal Bool → Bool
below Unknown t = true
below Absent Absent = true
below (Present true) (Present true) = true
below (Present false) (Present false) = true
below s t = false

abbrev pub for_all : (Signal Bool → Bool) → Bool
for_all test = test Unknown && (test Absent && (test (Present false) && test (Present true)))

each : (test : Signal Bool → Bool) → test Unknown ≡ true → test Absent ≡ true → test (Present false) ≡ true → test (Present true) ≡ true → (s : Signal Bool) → test s ≡ true
each test u a n y Unknown = u
each test u a n y Absent = a
each test u a n y (Present false) = n
each test u a n y (Present true) = y

every : (test : Signal Bool → Bool) → for_all test ≡ true → (s : Signal Bool) → test s ≡ true
every test h s =
    let rest = (and_parts (test Unknown) (test Absent && (test (Present false) && test (Present true))) h) in
    let values = (and_parts (test Absent) (test (Present false) && test (Present true)) rest.1) in
    let both = (and_parts (test (Present false)) (test (Present true)) values.1) in
    each test rest.0 values.0 both.0 both.1 s

below_so : (s t : Signal Bool) → below s t ≡ true → s ⊑ t
below_so s t h = grind arith

-- an answer to three signals is at most another if it is so for all of them
pub tried : (f g : Signal Bool → Signal Bool → Signal Bool → Signal Bool) →
    for_all (λ a. for_all (λ b. for_all (λ c. below (f a b c) (g a b c)))) ≡ true →
    (a b c : Signal Bool) → f a b c ⊑ g a b c
tried f g h a b c =
    below_so (f a b c) (g a b c)
    (every (λ z. below (f a b z) (g a b z)) (every (λ y. for_all (λ z. below (f a y z) (g a y z))) (every (λ x. for_all (λ y. for_all (λ z. below (f x y z) (g x y z)))) h a) b) c)
