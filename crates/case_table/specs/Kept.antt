-- A cell as it stands in a table: the number of what it holds, or a dash.
use Rattle.std.specs.Prelude.{ℕ, ℤ, List, codes, None, Some}
use Rattle.std.specs.Fmt.{signed_decimal}
use Rattle.kit.specs.Cells.{Cell}

abbrev pub shown_kept : {V : Type 0} → (V → ℤ) → Cell V → List ℕ
shown_kept numbered None = codes "-"
shown_kept numbered (Some v) = signed_decimal (numbered v)
