-- A number that is read digit by digit and cut off at a cap comes out as the whole number cut off.
use Rattle.std.proofs.Common.{◌≡◌, ℕ, ◌+◌, ◌*◌, min, List, [], ◌∷◌, sym, ap, ◌∙◌, arith}
use Rattle.std.specs.Str.Parse.{digits_value_after}
use Rattle.std.specs.Char.{digit_value}

capped_step : (m d c : ℕ) → min (min m c * 10 + d) c ≡ min (m * 10 + d) c
capped_step m d c = omega arith

pub capped : (ds : List ℕ) (m c : ℕ) → min (digits_value_after 10 (min m c) ds) c ≡ min (digits_value_after 10 m ds) c
capped [] m c = omega arith
capped (d ∷ ds) m c =
    sym (capped ds (min m c * 10 + digit_value d) c)
    ∙ ap (λ n. min (digits_value_after 10 n ds) c) (capped_step m (digit_value d) c)
    ∙ capped ds (m * 10 + digit_value d) c
