-- The longest text that a rename may leave, and one of a byte more.
use Rattle.std.proofs.Common.{◌≡◌, ℕ, nat_lt, List, [], ◌∷◌, length, cond, Some, None, ap}
use Rattle.ls_base.specs.Limits.{max_text}
use Rattle.rename_conditions.specs.Renames.{first_too_long}

at_limit : (text : List ℕ) → length text ≡ 1048576 → first_too_long 0 (text ∷ []) ≡ None
at_limit text h = ap (λ (n : ℕ). cond (nat_lt max_text n) (Some 0) None) h

past_limit : (short text : List ℕ) → length short ≡ 1048576 → length text ≡ 1048577 → first_too_long 0 (short ∷ text ∷ []) ≡ Some 1
past_limit short text h k =
    (λ j. cond (nat_lt max_text (h j)) (Some 0) (cond (nat_lt max_text (k j)) (Some 1) None))
