-- A firing whose outputs are known changes nothing.
use Rattle.std.proofs.Common.{◌≡◌, ℕ, true, List, set, refl, ap, ◌∙◌}
use Rattle.std.proofs.lemmas.List.{set-get_or}
use Rattle.std.proofs.lemmas.Bool.{and_parts, false≢true}
use Rattle.kit.specs.declared.signal.Signal.{Signal}
use Rattle.kit.specs.declared.signal.Signal.TheVariants.{Unknown, Absent, Present}
use Rattle.kit.specs.Known.{is_known}
use Rattle.draft.specs.declared.block.OutPorts.{OutPorts}
use Rattle.draft.specs.declared.block.OutPorts.TheVariants.{One as OneOut, Two as TwoOut}
use Rattle.machine.specs.Firing.{takes, put, put_outs}
use Rattle.machine.specs.Tables.{at}
use Rattle.tables.specs.Knowing.{known_at, all_known}

keeps_own : {V : Type 0} (s t : Signal V) → is_known s ≡ true → takes s t ≡ s
keeps_own Unknown t h = absurd (false≢true h)
keeps_own Absent t h = refl
keeps_own (Present v) t h = refl

put_known : {V : Type 0} (ws : List (Signal V)) (w : ℕ) (s : Signal V) → known_at ws w ≡ true → put ws w s ≡ ws
put_known ws w s h = ap (set ws w) (keeps_own (at ws w) s h) ∙ set-get_or ws w Unknown

pub all_kept : {V : Type 0} (ws : List (Signal V)) (o : OutPorts) (answers : ℕ → Signal V) → all_known ws o ≡ true → put_outs ws o answers ≡ ws
all_kept ws (OneOut p) answers h = put_known ws p (answers 0) h
all_kept ws (TwoOut p q) answers h =
    let both = and_parts (known_at ws p) (known_at ws q) h in
    ap (λ xs. put xs q (answers 1)) (put_known ws p (answers 0) both.0) ∙ put_known ws q (answers 1) both.1
