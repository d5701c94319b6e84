-- What is asked on both sides: the same questions, renumbered.
use Rattle.std.proofs.Common.{◌≡◌, List, [], ◌∷◌, ◌++◌, map, Option, refl, sym, subst}
use Rattle.scheme_model.specs.Identifiers.{Number}
use Rattle.scheme_model.specs.Ident.{Ident}
use Rattle.scheme_model.specs.ExpansionFaults.{Named}
use Rattle.scheme_model.specs.Trees.{Trees, Tail}
use Rattle.scheme_model.specs.Requirements.{LibraryName, libraries_in}
use Rattle.scheme_model.specs.Quasiquote.{Mark, marks_in}
use Rattle.scheme_model.specs.Matching.{compared}
use Rattle.scheme_model.specs.RulesShape.{role_of, dots_of}
use Rattle.scheme_model.specs.Leaves.{Leaf, leaves_of}
use Rattle.scheme_model.specs.Meaning.{Meaning}
use Rattle.scheme_model.specs.Cores.{Bound, LocalNumber, Definition, Binder}
use Rattle.scheme_model.specs.Order.{Transformer, Asked, Meant, Headed, RulesOf, Alike, Library, compared_asked}
use Rattle.scheme_model.specs.Expression.{meaning_of, leaves_asked, macro_asked, locals_asked}
use Rattle.scheme_model.specs.Renaming.{pair_map}
use Rattle.renumbering_laws.specs.Moving.{Change, move_trees, move_tail, move_named, move_rule, move_rules}
use Rattle.renumbering_laws.specs.Renumbering.{Renumbering, number, place, ident, meaning, bound, binder}
use Rattle.renumbering_laws.proofs.Sides.{no_macro, a_macro, meant, headed, rules_of, alike, library, AskedMoves, All, Sides, Macros}
use Rattle.renumbering_laws.proofs.MovedParts.{move_leaf}
use Rattle.renumbering_laws.proofs.MovedRules.{role_of-map, dots_of-map}
use Rattle.renumbering_laws.proofs.MovedComparisons.{compared-map}
use Rattle.renumbering_laws.proofs.MovedRequirements.{libraries_in-map}
use Rattle.renumbering_laws.proofs.MovedQuasi.{marks_in-map}
use Rattle.renumbering_laws.proofs.MovedLeaves.{leaves_of-map}
use Rattle.renumbering_laws.proofs.SideSteps.{moved, told}

-- ---- one by one

module _ {X Y P Q : Type 0} (R : P → Q → Type 0) (f : X → P) (g : Y → Q) (m : X → Y) (each : (x : X) → R (f x) (g (m x))) where
  all_moved : (xs : List X) → All R (map f xs) (map g (map m xs))
  all_moved [] = tt
  all_moved (x ∷ xs) = (each x, all_moved xs)

  -- where the second list is the first, renumbered
  all_told : (xs : List X) (ys : List Y) → ys ≡ map m xs → All R (map f xs) (map g ys)
  all_told xs ys e = subst (λ (zs : List Y). All R (map f xs) (map g zs)) (sym e) (all_moved xs)

all_same : {X P Q : Type 0} (R : P → Q → Type 0) (f : X → P) (g : X → Q) (each : (x : X) → R (f x) (g x)) → (xs : List X) → All R (map f xs) (map g xs)
all_same R f g each [] = tt
all_same R f g each (x ∷ xs) = (each x, all_same R f g each xs)

all_joined : {P Q : Type 0} (R : P → Q → Type 0) (xs bs : List P) (cs ds : List Q) → All R xs cs → All R bs ds → All R (xs ++ bs) (cs ++ ds)
all_joined R [] bs [] ds h k = k
all_joined R [] bs (c ∷ cs) ds h k = absurd h
all_joined R (a ∷ xs) bs [] ds h k = absurd h
all_joined R (a ∷ xs) bs (c ∷ cs) ds h k = (h.0, all_joined R xs bs cs ds h.1 k)

-- ---- what the macro of a definition is

pub meaning_seen : (r : Renumbering) (b : Bound) (i : Ident) → meaning_of (bound r b) (ident r i) ≡ meaning r (meaning_of b i)
meaning_seen r (LocalNumber v) i = refl
meaning_seen r (Definition u n) i = refl

module _ (h : Sides) where
  abbrev Both : Asked h.E h.A → Asked h.E' h.A' → Type 0
  Both q q' = AskedMoves h.r h.on h.around q q'

  abbrev mv : Change h.A h.A'
  mv = moved h

  module _ (e : h.E) (e' : h.E') (k : h.around e e') where
    pub literals_asked : (ns : List (Named h.A)) → All Both (map (λ n. Meant e n.name) ns) (map (λ n. Meant e' n.name) (map (move_named mv) ns))
    literals_asked ns = all_moved Both (λ (n : Named h.A). Meant e n.name) (λ (n : Named h.A'). Meant e' n.name) (move_named mv) (λ n. meant e e' k n.name) ns

    pub marks_asked : (mark : h.A → Option Mark) (mark' : h.A' → Option Mark) → ((i : h.A) → mark' (h.on i) ≡ mark i) → (ts : Trees h.A) (tail : Tail h.A) → All Both (map (Headed e) (marks_in mark ts tail)) (map (Headed e') (marks_in mark' (move_trees mv ts) (move_tail mv tail)))
    marks_asked mark mark' same ts tail =
        all_told Both (λ (i : h.A). Headed e i) (λ (i : h.A'). Headed e' i) h.on (λ i. headed e e' k i) (marks_in mark ts tail) (marks_in mark' (move_trees mv ts) (move_tail mv tail)) (marks_in-map h.A h.A' mv refl mark mark' same ts tail)

    pub comparisons_asked : (m : Transformer h.E h.A) (d : h.E') → h.around m.env d → (ts : Trees h.A) (tail : Tail h.A)
        → All Both (compared_asked h.one e m ts tail) (compared_asked h.two e' (record { env = d; rules = move_rules mv m.rules }) (move_trees mv ts) (move_tail mv tail))
    comparisons_asked m d at ts tail =
        all_told Both (λ (q : h.A × h.A). Alike m.env q.0 e q.1) (λ (q : h.A' × h.A'). Alike d q.0 e' q.1) (pair_map h.on h.on) (λ q. alike m.env d at q.0 e e' k q.1)
        (compared (role_of h.one.names m.rules) (dots_of h.one.names m.rules) m.rules.rules ts tail)
        (compared (role_of h.two.names (move_rules mv m.rules)) (dots_of h.two.names (move_rules mv m.rules)) (map (move_rule mv) m.rules.rules) (move_trees mv ts) (move_tail mv tail))
        (compared-map h.A h.A h.A' h.A' mv mv refl (role_of h.one.names m.rules) (role_of h.two.names (move_rules mv m.rules)) (role_of-map h.A h.A' mv h.one.names h.two.names (told h) m.rules)
        (dots_of h.one.names m.rules) (dots_of h.two.names (move_rules mv m.rules)) (dots_of-map h.A h.A' mv h.one.names h.two.names (told h) m.rules) m.rules.rules ts tail)

  pub libraries_asked : (ts : Trees h.A) (tail : Tail h.A) → All Both (map Library (libraries_in h.one.names.strip ts tail)) (map Library (libraries_in h.two.names.strip (move_trees mv ts) (move_tail mv tail)))
  libraries_asked ts tail =
      subst (λ (ns : List LibraryName). All Both (map Library (libraries_in h.one.names.strip ts tail)) (map Library ns)) (sym (libraries_in-map h.A h.A' mv h.one.names.strip h.two.names.strip h.strip h.one.known ts))
      (all_same Both (λ (n : LibraryName). Library n) (λ (n : LibraryName). Library n) (λ n. library n) (libraries_in h.one.names.strip ts tail))

  -- ---- macro definitions

  module _ (s : h.S) (s' : h.S') (l : h.state s s') where
    leaves_go : (o : Option (Transformer h.E h.A)) (o' : Option (Transformer h.E' h.A')) → Macros h.around mv o o' → All Both (leaves_asked h.one o) (leaves_asked h.two o')
    leaves_go _ _ no_macro = tt
    leaves_go _ _ (a_macro m d at) =
        all_told Both (λ (x : Leaf h.A). Meant m.env x.leaf.name) (λ (x : Leaf h.A'). Meant d x.leaf.name) (move_leaf mv) (λ x. meant m.env d at x.leaf.name)
        (leaves_of h.one.names m.rules) (leaves_of h.two.names (move_rules mv m.rules)) (leaves_of-map h.A h.A' mv h.one.names h.two.names (told h) m.rules)

    pub macro_leaves_asked : (b : Binder) → All Both (macro_asked h.one s b) (macro_asked h.two s' (binder h.r b))
    macro_leaves_asked b =
        let m = meaning_of b.bound b.ident in
        subst (λ (x : Meaning). All Both (macro_asked h.one s b) (RulesOf x ∷ leaves_asked h.two (h.two.transformer s' x))) (sym (meaning_seen h.r b.bound b.ident))
        (rules_of m, leaves_go (h.one.transformer s m) (h.two.transformer s' (meaning h.r m)) (h.transformer s s' l m))

    pub local_macros_asked : (vs : List Number) (ns : List (Named h.A)) → All Both (locals_asked h.one s vs ns) (locals_asked h.two s' (map (number h.r) vs) (map (move_named mv) ns))
    local_macros_asked [] ns = tt
    local_macros_asked (v ∷ vs) [] = tt
    local_macros_asked (v ∷ vs) (n ∷ ns) =
        let b : Binder = record { bound = LocalNumber v; ident = h.one.plain n.name; occ = n.occ } in
        let two_asked = macro_asked h.two s' (record { bound = LocalNumber (number h.r v); ident = h.two.plain (h.on n.name); occ = place h.r n.occ }) in
        all_joined Both (macro_asked h.one s b) (locals_asked h.one s vs ns) two_asked (locals_asked h.two s' (map (number h.r) vs) (map (move_named mv) ns))
        (subst (λ (i : Ident). All Both (macro_asked h.one s b) (macro_asked h.two s' (record { bound = LocalNumber (number h.r v); ident = i; occ = place h.r n.occ }))) (sym (h.plain n.name)) (macro_leaves_asked b))
        (local_macros_asked vs ns)
