-- One step more of the walks that gather arrows.
use Rattle.std.proofs.Common.{◌≡◌, ℕ, ◌+◌, ◌<◌, zero, suc, List, [], ◌∷◌, ◌++◌, map, take, drop, length, get_or, Bool, true, false, Option, refl, sym, ap, ◌∙◌, subst, append_assoc, add-one, drop-cons, arith}
use Rattle.std.specs.Prelude.{◌||◌, not, if◌then◌else◌}
use Rattle.std.proofs.lemmas.List.{append-nil}
use Rattle.std.proofs.lemmas.Grind.{flat_map-append}
use Rattle.scheme_model.specs.declared.Occ.{Occ}
use Rattle.scheme_model.specs.Trees.{Tree}
use Rattle.scheme_model.specs.Meaning.{Meaning}
use Rattle.scheme_model.specs.Cores as model
use Rattle.scheme_model.specs.Live as live
use Rattle.scheme_model.specs.Live.{CoreLeaf, name_places}
use Rattle.scheme_model.specs.ProgramArrows.{Arrow, arrow_of, leaf_arrows, target_arrows, name_arrows}
use Rattle.syntax_tree.specs.declared.trees.Work.{Work}
use Rattle.program_leaves.specs.declared.sight.PlacedLeaf.{PlacedLeaf}
use Rattle.program_leaves.specs.Leaves.{seen_of, IsSeen}
use Rattle.program_leaves.specs.Placed.{PlacedSeen, placed_of, AreAllSeen}
use Rattle.program_leaves.specs.Variables.{arrows_at, all_arrows_at}
use Rattle.program_leaves.proofs.LiveLaws.{Passed}
use Rattle.program_leaves.proofs.QuotedLaws.{quoted_none}

-- ---- leaves of rules

pub static_true : (t b : Bool) (xs : List Arrow) → t ≡ b → t ≡ true → (if b then xs else []) ++ [] ≡ xs
static_true t true xs e h = append-nil xs
static_true t false xs e h = absurd cc

pub static_false : (t b : Bool) (xs : List Arrow) → t ≡ b → t ≡ false → (if b then xs else []) ++ [] ≡ []
static_false t true xs e h = absurd cc
static_false t false xs e h = refl

module _ (binder : Meaning → Option Occ) (is_live : Option Occ → Bool) where
  leaf-append : (xs ys : List model.RuleLeaf) → leaf_arrows binder is_live (xs ++ ys) ≡ leaf_arrows binder is_live xs ++ leaf_arrows binder is_live ys
  leaf-append [] ys = refl
  leaf-append (x ∷ xs) ys =
      let here = if x.literal || not (is_live x.target.occ) then arrow_of (binder x.target.meaning) x.target.occ else [] in
      ap (λ (q : List Arrow). here ++ q) (leaf-append xs ys) ∙ sym (append_assoc here (leaf_arrows binder is_live xs) (leaf_arrows binder is_live ys))

  pub leaf_more : (ms : List model.RuleLeaf) (k : ℕ) (m : model.RuleLeaf) → take (k + 1) ms ≡ take k ms ++ m ∷ [] → leaf_arrows binder is_live (take (k + 1) ms) ≡ leaf_arrows binder is_live (take k ms) ++ leaf_arrows binder is_live (m ∷ [])
  leaf_more ms k m e = ap (leaf_arrows binder is_live) e ∙ leaf-append (take k ms) (m ∷ [])

  -- ---- leaves of cores

  pub leaves-append : (xs ys : List CoreLeaf) → all_arrows_at binder is_live (xs ++ ys) ≡ all_arrows_at binder is_live xs ++ all_arrows_at binder is_live ys
  leaves-append xs ys = flat_map-append (arrows_at binder is_live) xs ys

  pub quoted_arrows : {A : Type 0} (f : A → Bool) (t : Tree A) → all_arrows_at binder is_live (name_places f t) ≡ []
  quoted_arrows f t = quoted_none (all_arrows_at binder is_live) leaves-append refl (λ o. refl) f t

module _ (binder : Meaning → Option Occ) where
  targets-append : (xs ys : List model.Target) → target_arrows binder (xs ++ ys) ≡ target_arrows binder xs ++ target_arrows binder ys
  targets-append [] ys = refl
  targets-append (x ∷ xs) ys =
      let here = arrow_of (binder x.meaning) x.occ in
      ap (λ (q : List Arrow). here ++ q) (targets-append xs ys) ∙ sym (append_assoc here (target_arrows binder xs) (target_arrows binder ys))

  pub targets_more : (ms : List model.Target) (k : ℕ) (m : model.Target) → take (k + 1) ms ≡ take k ms ++ m ∷ [] → target_arrows binder (take (k + 1) ms) ≡ target_arrows binder (take k ms) ++ arrow_of (binder m.meaning) m.occ
  targets_more ms k m e =
      ap (target_arrows binder) e ∙ targets-append (take k ms) (m ∷ []) ∙ ap (λ (q : List Arrow). target_arrows binder (take k ms) ++ q) (append-nil (arrow_of (binder m.meaning) m.occ))

  pub names-append : (xs ys : List live.NameUse) → name_arrows binder (xs ++ ys) ≡ name_arrows binder xs ++ name_arrows binder ys
  names-append [] ys = refl
  names-append (x ∷ xs) ys =
      let here = arrow_of (binder x.meaning) x.occ in
      ap (λ (q : List Arrow). here ++ q) (names-append xs ys) ∙ sym (append_assoc here (name_arrows binder xs) (name_arrows binder ys))

  pub names_more : (ms : List live.NameUse) (k : ℕ) (m : live.NameUse) → take (k + 1) ms ≡ take k ms ++ m ∷ [] → name_arrows binder (take (k + 1) ms) ≡ name_arrows binder (take k ms) ++ arrow_of (binder m.meaning) m.occ
  names_more ms k m e =
      ap (name_arrows binder) e ∙ names-append (take k ms) (m ∷ []) ∙ ap (λ (q : List Arrow). name_arrows binder (take k ms) ++ q) (append-nil (arrow_of (binder m.meaning) m.occ))

-- ---- leaves that are past

pub record Next (work : Work) (l : PlacedLeaf) (left : List PlacedSeen) (rest : List CoreLeaf) : Type 0 where
  pub front : List CoreLeaf
  pub behind : List CoreLeaf
  pub whole : rest ≡ front ++ behind
  pub is : IsSeen work l.at.unit l.at.form (seen_of l.leaf) front
  pub still : AreAllSeen work left behind

pub next_leaf : (work : Work) (ls : List PlacedLeaf) (i : ℕ) (l : PlacedLeaf) (rest : List CoreLeaf) → i < length ls → l ≡ get_or ls i l → AreAllSeen work (map placed_of (drop i ls)) rest → Next work l (map placed_of (drop (i + 1) ls)) rest
next_leaf work ls i l rest lt is h =
    let at : drop i ls ≡ l ∷ drop (i + 1) ls =
    drop-cons ls i l lt ∙ (λ j. sym is j ∷ drop (sym (add-one i) j) ls) in
    let q = subst (λ (xs : List PlacedLeaf). AreAllSeen work (map placed_of xs) rest) at h in
    record { front = q.0; behind = q.1; whole = q.2; is = q.3; still = q.4 }

pub passed_none : (work : Work) (xs : List PlacedSeen) (ls : List CoreLeaf) (Q : List CoreLeaf → Type 0) → AreAllSeen work xs ls → Q [] → Passed work xs ls Q
passed_none work xs ls Q h q = record { done = []; rest = ls; whole = refl; still = h; holds = q }

pub passed_more : (work : Work) (ls : List PlacedLeaf) (i : ℕ) (l : PlacedLeaf) (all : List CoreLeaf) (P Q : List CoreLeaf → Type 0) (p : Passed work (map placed_of (drop i ls)) all P) (n : Next work l (map placed_of (drop (i + 1) ls)) p.rest) →
    Q (p.done ++ n.front) → Passed work (map placed_of (drop (i + 1) ls)) all Q
passed_more work ls i l all P Q p n q = record {
  done = p.done ++ n.front;
  rest = n.behind;
  whole = p.whole ∙ ap (λ (x : List CoreLeaf). p.done ++ x) n.whole ∙ sym (append_assoc p.done n.front n.behind);
  still = n.still;
  holds = q;
}

pub passed_all : (work : Work) (ls : List PlacedLeaf) (i : ℕ) (all : List CoreLeaf) (P : List CoreLeaf → Type 0) → Passed work (map placed_of (drop i ls)) all P → drop i ls ≡ [] → P all
passed_all work ls i all P p e =
    let none : p.rest ≡ [] = subst (λ (xs : List PlacedLeaf). AreAllSeen work (map placed_of xs) p.rest) e p.still in
    subst P (sym (p.whole ∙ ap (λ (x : List CoreLeaf). p.done ++ x) none ∙ append-nil p.done)) p.holds

pub seen_item : (work : Work) (ls : List PlacedLeaf) (i : ℕ) (l : PlacedLeaf) (all : List CoreLeaf) → AreAllSeen work (map placed_of ls) all → i < length ls → l ≡ get_or ls i l → (front : List CoreLeaf) × IsSeen work l.at.unit l.at.form (seen_of l.leaf) front
seen_item work [] i l all h lt e = absurd (omega (arith, lt))
seen_item work (x ∷ xs) zero l all h lt e = (h.0, subst (λ (y : PlacedLeaf). IsSeen work y.at.unit y.at.form (seen_of y.leaf) h.0) (sym e) h.3)
seen_item work (x ∷ xs) (suc i) l all h lt e = seen_item work xs i l h.1 h.4 (omega (arith, lt)) e
