-- What a contract sees of a vector of a fixed length.
use Rattle.std.specs.Prelude.{List, length, refl}
use Rattle.std.specs.List.{refill}
use Rattle.std.specs.Coded.{Coded, code_by, coded_list}

-- Its values, in order.
pub record Fixed (T : Type 0) : Type 0 where
  pub items : List T

-- The storage of a vector as the list of its values.
abbrev pub fixed_code : {T : Type 0} → Coded T → Coded (Fixed T)
fixed_code {T} code = code_by (List T) (coded_list code) (λ v. v.items) (λ xs. record { items = xs }) (λ _. refl)

-- The vector after a write of its values as a slice, which keeps the length.
abbrev pub with_items : {T : Type 0} → Fixed T → List T → Fixed T
with_items v xs = record { items = refill (length v.items) v.items xs }
