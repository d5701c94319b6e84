-- Nodes under new numbers.
use Rattle.std.proofs.Common.{◌≡◌, ◌≢◌, ℕ, ◌+◌, ◌<◌, ◌≤◌, Option, Some, None, refl, sym, ap, ◌∙◌, inl, inr, arith}
use Rattle.std.specs.Prelude.{IsSome, is_some}
use Rattle.std.specs.Option.{option_map}
use Rattle.std.specs.FinMap as finite
use Rattle.std.proofs.lemmas.Bool.{cases_eq, cases_lt}
use Rattle.std.proofs.lemmas.Option.{none-some}
use Rattle.scheme_model.specs.declared.Occ.{Occ}
use Rattle.syntax_tree.specs.Nodes.{Lived, Nodes, shape_at}
use Rattle.syntax_tree.specs.NodePlaces.{place_in, placed_at}
use Rattle.syntax_tree.proofs.NodeLaws.{map_some}
use Rattle.syntax_tree.proofs.SeenLaws.{got_here, got_there}
use Rattle.renumbering_laws.specs.Renumbering.{Renumbering, place}
use Rattle.moves.specs.Works.{lived_as}

-- one node is at its new place, and all others are where they were
pub record NodeMoves (r : Renumbering) (old new : Nodes) (n : ℕ) : Type 0 where
  pub here : finite.get new n ≡ option_map (lived_as r) (finite.get old n)
  pub others : (m : ℕ) → m ≢ n → finite.get new m ≡ finite.get old m

-- a node that has a place lives
pub node_placed : (nodes : Nodes) (n : ℕ) (o : Option Occ) → Some o ≡ option_map place_in (shape_at nodes n) → (l : Lived) × (finite.get nodes n ≡ Some l) × (o ≡ place_in l.node)
node_placed nodes n o h =
    let p = map_some place_in (shape_at nodes n) o (sym h) in
    let q = map_some (λ (l : Lived). l.node) (finite.get nodes n) p.0 p.1 in
    (q.0, q.1, sym p.2 ∙ ap place_in (sym q.2))

pub node_moved : (r : Renumbering) (old new : Nodes) (n : ℕ) (o p : Option Occ) → Some o ≡ option_map place_in (shape_at old n) → p ≡ place r o →
    ((l : Lived) → finite.get old n ≡ Some l → new ≡ finite.insert old n (record { node = placed_at p l.node; region = l.region; rank = l.rank })) → NodeMoves r old new n
node_moved r old new n o p h is put =
    let q = node_placed old n o h in
    let l = q.0 in
    let there : new ≡ finite.insert old n (lived_as r l) = put l q.1 ∙ ap (λ (x : Option Occ). finite.insert old n (record { node = placed_at x l.node; region = l.region; rank = l.rank })) (is ∙ ap (place r) q.2) in
    record {
      here = ap (λ (x : Nodes). finite.get x n) there ∙ got_here old n (lived_as r l) n refl ∙ sym (ap (option_map (lived_as r)) q.1);
      others = λ m ne. ap (λ (x : Nodes). finite.get x m) there ∙ got_there old n (lived_as r l) m ne;
    }

pub no_node : (r : Renumbering) (nodes : Nodes) (n : ℕ) → None ≡ option_map place_in (shape_at nodes n) → NodeMoves r nodes nodes n
no_node r nodes n h = record { here = by_node (finite.get nodes n) h; others = λ m ne. refl }
  where
    by_node : (o : Option Lived) → None ≡ option_map place_in (option_map (λ (l : Lived). l.node) o) → o ≡ option_map (lived_as r) o
    by_node None e = refl
    by_node (Some l) e = absurd (none-some (place_in l.node) e)

-- ---- all nodes, one after the other

-- the nodes below a number are at their new places
pub record AreMoved (r : Renumbering) (old new : Nodes) (n : ℕ) : Type 0 where
  pub below : (m : ℕ) → m < n → finite.get new m ≡ option_map (lived_as r) (finite.get old m)
  pub above : (m : ℕ) → n ≤ m → finite.get new m ≡ finite.get old m

pub one_more : (r : Renumbering) (old new next : Nodes) (n : ℕ) → AreMoved r old new n → NodeMoves r new next n → AreMoved r old next (n + 1)
one_more r old new next n so_far step = record {
  below = λ m lt.
      elim (cases_eq m n) [
        | inl e ↦
            ap (finite.get next) e ∙ step.here ∙ ap (option_map (lived_as r)) (so_far.above n (omega arith)) ∙ ap (λ (q : ℕ). option_map (lived_as r) (finite.get old q)) (sym e)
        | inr ne ↦ step.others m ne ∙ so_far.below m (omega (arith, lt, ne))
      ];
  above = λ m le. step.others m (λ e. absurd (omega (arith, e, le))) ∙ so_far.above m (omega (arith, le));
}

pub all_moved : (r : Renumbering) (old new : Nodes) (n : ℕ) → AreMoved r old new n → ((m : ℕ) → IsSome (finite.get old m) → m < n) → (m : ℕ) → finite.get new m ≡ option_map (lived_as r) (finite.get old m)
all_moved r old new n so_far below m =
    elim (cases_lt m n) [
      | inl lt ↦ so_far.below m lt
      | inr le ↦ so_far.above m le ∙ none (finite.get old m) refl le
    ]
  where
    none : (o : Option Lived) → finite.get old m ≡ o → n ≤ m → o ≡ option_map (lived_as r) o
    none None e le = refl
    none (Some l) e le = let lt = below m (ap (λ (x : Option Lived). is_some x) e) in absurd (omega (arith, lt, le))
