-- When the parts and the tail of a pattern can take those of a list.
use Rattle.std.proofs.Common.{◌≡◌, ℕ, ◌<◌, Bool, true, false, sym, ap, ◌∙◌, arith}
use Rattle.std.specs.Prelude.{nat_le, ◌==◌}
use Rattle.std.proofs.lemmas.Bool.Decides.{nat_tests}
use Rattle.scheme_model.specs.Trees.{Tree, Trees, Tail, proper, dotted}
use Rattle.scheme_model.specs.TreeParts.{count}
use Rattle.scheme_model.specs.RulesShape.{dots_count}
use Rattle.scheme_model.specs.Matching.{least, tail_fits, can_take}
use Rattle.scheme_model.specs.Ident.{Ident as Identifier}

module _ (dots : Identifier → Bool) (ps : Trees Identifier) (tail : Tail Identifier) (ts : Trees Identifier) (end : Tail Identifier) (n m : ℕ) (few : n ≡ least dots ps) (there : m ≡ count ts) where
  -- a tail takes what is left
  pub take_tail : (t : Tree Identifier) → tail ≡ dotted t → nat_le n m ≡ can_take dots ps tail ts end
  take_tail t e = (λ i. nat_le (few i) (there i)) ∙ ap (λ (x : Tail Identifier). tail_fits {A = Identifier} {B = Identifier} x (nat_le 1 (dots_count dots ps)) (least dots ps) (count ts) end) (sym e)

  fits : (b : Bool) → nat_le 1 (dots_count dots ps) ≡ b → tail ≡ proper → end ≡ proper → tail_fits {A = Identifier} {B = Identifier} proper b (least dots ps) (count ts) proper ≡ can_take dots ps tail ts end
  fits b d e g = λ i. tail_fits {A = Identifier} {B = Identifier} (sym e i) (sym d i) (least dots ps) (count ts) (sym g i)

  -- an ellipsis may take more
  pub take_more : 0 < dots_count dots ps → tail ≡ proper → end ≡ proper → nat_le n m ≡ can_take dots ps tail ts end
  take_more h e g =
      let more : nat_le 1 (dots_count dots ps) ≡ true = grind (arith, nat_tests) in
      (λ i. nat_le (few i) (there i)) ∙ fits true more e g

  pub take_exact : dots_count dots ps ≡ 0 → tail ≡ proper → end ≡ proper → (n == m) ≡ can_take dots ps tail ts end
  take_exact h e g =
      let none : nat_le 1 (dots_count dots ps) ≡ false = ap (λ x. nat_le 1 x) h in
      (λ i. few i == there i) ∙ fits false none e g
