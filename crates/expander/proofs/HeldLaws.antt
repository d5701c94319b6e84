-- Of the pairs of a use that are compared those are handed on that held, and these tell exactly which literals mean the same.
use Rattle.std.proofs.Common.{◌≡◌, ℕ, ◌&&◌, ◌||◌, List, [], ◌∷◌, map, Bool, true, false, cond, Option, refl, sym, ap, ◌∙◌, subst, ◌⊎◌, inl, inr}
use Rattle.std.specs.List.{list_any, filter}
use Rattle.std.specs.Option.{option_map_or}
use Rattle.scheme_model.specs.Ident.{Ident as Identifier, same_ident}
use Rattle.scheme_model.specs.Trees.{Trees, Tail}
use Rattle.scheme_model.specs.Meaning.{same_meaning}
use Rattle.scheme_model.specs.Matching.{compared}
use Rattle.scheme_model.specs.Requirements.{Known}
use Rattle.scheme_model.specs.RulesShape.{role_of, dots_of}
use Rattle.scheme_model.specs.Order.{Note, Compared, Transformer, comparisons, has_use}
use Rattle.scheme_model.specs.CountedExpansion.{means_here}
use Rattle.scheme_model.specs.ScopedExpansion.{Frames, FramedIdent, ScopedState}
use Rattle.scheme_model.proofs.IdentLaws.{ident_told}
use Rattle.syntax_tree.specs.Names.{Names}
use Rattle.syntax_tree.specs.Macros.{identifiers, IsIdent}
use Rattle.syntax_tree.specs.declared.rules.IdPair.{IdPair}
use Rattle.syntax_tree.specs.declared.trees.Work.{Work}
use Rattle.syntax_tree.proofs.InternLaws.{ident_itself}
use Rattle.rules_match.specs.Matches.{is_ident, means_same}
use Rattle.core_tree.specs.Names.{AllMatch}
use Rattle.unit_scopes.specs.Used.{ComparisonFor, AreHeld}
use Rattle.unit_scopes.specs.Searched.{searched}
use Rattle.unit_scopes.specs.declared.uses.Comparison.{Comparison}

abbrev Pair : Type 0
Pair = Identifier × Identifier

abbrev pub pairs_held : List Comparison → List IdPair
pairs_held cs = map (λ c. c.pair) (filter (λ c. c.held) cs)

both_true : (a b : Bool) → (a && b) ≡ true → (a ≡ true) × (b ≡ true)
both_true true true h = (refl, refl)
both_true true false h = absurd cc
both_true false b h = absurd cc

either_true : (a b : Bool) → (a || b) ≡ true → (a ≡ true) ⊎ (b ≡ true)
either_true true b h = inl refl
either_true false b h = inr h

first_true : (a b : Bool) → a ≡ true → (a || b) ≡ true
first_true true b h = refl
first_true false b h = absurd cc

later_true : (a b : Bool) → b ≡ true → (a || b) ≡ true
later_true true b h = refl
later_true false b h = h

true_or_false : (b : Bool) → (b ≡ true) ⊎ (b ≡ false)
true_or_false true = inl refl
true_or_false false = inr refl

false_unless : (b : Bool) → (b ≡ true → ⊥) → b ≡ false
false_unless true h = absurd (h refl)
false_unless false h = refl

module _ (names : Names) where
  number_is : (n : ℕ) (i : Identifier) → IsIdent names n i → is_ident names n i ≡ true
  number_is n i h = ap (λ (o : Option Identifier). option_map_or (λ (j : Identifier). same_ident j i) o false) h ∙ ident_itself i

  number_told : (n : ℕ) (i j : Identifier) → IsIdent names n i → is_ident names n j ≡ true → i ≡ j
  number_told n i j h is = ident_told i j (sym (ap (λ (o : Option Identifier). option_map_or (λ (k : Identifier). same_ident k j) o false) h) ∙ is)

module _ (work : Work) (mean : Pair → Bool) where
  -- a comparison is of these identifiers, and held where they mean the same
  abbrev IsPair : Comparison → Pair → Type 0
  IsPair c q = IsIdent work.symbols c.pair.literal q.0 × IsIdent work.symbols c.pair.ident q.1 × (c.held ≡ mean q)

  abbrev is_among : Pair → IdPair → Bool
  is_among q p = is_ident work.symbols p.literal q.0 && is_ident work.symbols p.ident q.1

  abbrev any_among : Pair → List IdPair → Bool
  any_among q ps = list_any (is_among q) ps

  -- a pair that is handed on was one that held
  split_held : (c : Comparison) (cs : List Comparison) (q : Pair) (b : Bool) → any_among q (map (λ (d : Comparison). d.pair) (cond b (c ∷ filter (λ (d : Comparison). d.held) cs) (filter (λ (d : Comparison). d.held) cs))) ≡ true →
      ((b ≡ true) × (is_among q c.pair ≡ true)) ⊎ (any_among q (pairs_held cs) ≡ true)
  split_held c cs q true h = elim (either_true (is_among q c.pair) (any_among q (pairs_held cs)) h) [ inl now ↦ inl (refl, now) | inr later ↦ inr later ]
  split_held c cs q false h = inr h

  held_means : (cs : List Comparison) (qs : List Pair) (q : Pair) → AllMatch IsPair cs qs → any_among q (pairs_held cs) ≡ true → mean q ≡ true
  held_means [] [] q are h = absurd cc
  held_means [] (r ∷ qs) q are h = absurd are
  held_means (c ∷ cs) [] q are h = absurd are
  held_means (c ∷ cs) (r ∷ qs) q are h =
      elim (split_held c cs q c.held h) [
        | inl now ↦
            let two = both_true (is_ident work.symbols c.pair.literal q.0) (is_ident work.symbols c.pair.ident q.1) now.1 in
            let first = number_told work.symbols c.pair.literal r.0 q.0 are.0.0 two.0 in
            let second = number_told work.symbols c.pair.ident r.1 q.1 are.0.1 two.1 in
            ap mean (λ j. (sym first j, sym second j)) ∙ (sym are.0.2 ∙ now.0)
        | inr later ↦ held_means cs qs q are.1 later
      ]

  kept_among : (c : Comparison) (cs : List Comparison) (q : Pair) (b : Bool) → any_among q (pairs_held cs) ≡ true →
      any_among q (map (λ (d : Comparison). d.pair) (cond b (c ∷ filter (λ (d : Comparison). d.held) cs) (filter (λ (d : Comparison). d.held) cs))) ≡ true
  kept_among c cs q true h = later_true (is_among q c.pair) (any_among q (pairs_held cs)) h
  kept_among c cs q false h = h

  put_among : (c : Comparison) (cs : List Comparison) (q : Pair) (b : Bool) → b ≡ true → is_among q c.pair ≡ true →
      any_among q (map (λ (d : Comparison). d.pair) (cond b (c ∷ filter (λ (d : Comparison). d.held) cs) (filter (λ (d : Comparison). d.held) cs))) ≡ true
  put_among c cs q true h now = first_true (is_among q c.pair) (any_among q (pairs_held cs)) now
  put_among c cs q false h now = absurd cc

  pair_among : (c : Comparison) (q : Pair) → IsPair c q → is_among q c.pair ≡ true
  pair_among c q is = (λ j. number_is work.symbols c.pair.literal q.0 is.0 j && number_is work.symbols c.pair.ident q.1 is.1 j)

  module _ (whole : List Comparison) (all : List Pair) (are_all : AllMatch IsPair whole all) where
    abbrev Tell : List Pair → Type 0
    Tell [] = Unit {0}
    Tell (q ∷ qs) = (any_among q (pairs_held whole) ≡ mean q) × Tell qs

    held_tell : (cs : List Comparison) (qs : List Pair) → AllMatch IsPair cs qs → ((q : Pair) → any_among q (pairs_held cs) ≡ true → any_among q (pairs_held whole) ≡ true) → Tell qs
    held_tell [] [] are on = tt
    held_tell [] (q ∷ qs) are on = absurd are
    held_tell (c ∷ cs) [] are on = absurd are
    held_tell (c ∷ cs) (q ∷ qs) are on = (
      elim (true_or_false (mean q)) [
        | inl same ↦ on q (put_among c cs q c.held (are.0.2 ∙ same) (pair_among c q are.0)) ∙ sym same
        | inr other ↦ false_unless (any_among q (pairs_held whole)) (λ h. let same : mean q ≡ true = held_means whole all q are_all h in absurd cc) ∙ sym other
      ],
      held_tell cs qs are.1 (λ r h. on r (kept_among c cs r c.held h)),
    )

module _ (work : Work) (known : Known) (ls : List Frames) (s : ScopedState) (fs : Frames) (m : Transformer Frames Identifier) (literal_scope scope : ℕ) where
  abbrev mean : Pair → Bool
  mean q = same_meaning (means_here s m.env q.0) (means_here s fs q.1)

  abbrev note : Pair → Note FramedIdent
  note q = Compared (record { frames = m.env; ident = q.0 }) (record { frames = fs; ident = q.1 }) (mean q)

  pairs_are : (cs : List Comparison) (qs : List Pair) → AllMatch (ComparisonFor work ls literal_scope scope) cs (map note qs) → AllMatch (IsPair work mean) cs qs
  pairs_are [] [] h = tt
  pairs_are [] (q ∷ qs) h = absurd h
  pairs_are (c ∷ cs) [] h = absurd h
  pairs_are (c ∷ cs) (q ∷ qs) h = ((h.0.0.1, h.0.1.1, h.0.2), pairs_are cs qs h.1)

  tells : (same : List IdPair) (whole : List Comparison) (all : List Pair) (are : AllMatch (IsPair work mean) whole all) → same ≡ pairs_held whole → (qs : List Pair) → Tell work mean whole all are qs → AreHeld work s m.env fs same qs
  tells same whole all are is [] h = tt
  tells same whole all are is (q ∷ qs) h = (ap (λ (ps : List IdPair). means_same work ps q.0 q.1) is ∙ h.0, tells same whole all are is qs h.1)

  -- where a use begins
  pub are_held : (cs : List Comparison) (same : List IdPair) (ts : Trees Identifier) (tail : Tail Identifier) → AllMatch (ComparisonFor work ls literal_scope scope) cs (comparisons (searched known) fs m ts tail s) →
      same ≡ map (λ c. c.pair) (filter (λ c. c.held) cs) → has_use (searched known) s ≡ true → AreHeld work s m.env fs same (compared (role_of identifiers m.rules) (dots_of identifiers m.rules) m.rules.rules ts tail)
  are_held cs same ts tail h is begins =
      let qs = compared (role_of identifiers m.rules) (dots_of identifiers m.rules) m.rules.rules ts tail in
      let all : comparisons (searched known) fs m ts tail s ≡ map note qs = ap (λ b. cond b (map note qs) []) begins in
      let are = pairs_are cs qs (subst (λ (ns : List (Note FramedIdent)). AllMatch (ComparisonFor work ls literal_scope scope) cs ns) all h) in
      tells same cs qs are is qs (held_tell work mean cs qs are cs qs are (λ q g. g))
