-- Heads, targets and macro uses on both sides.
use Rattle.std.proofs.Common.{◌≡◌, ◌-◌, List, [], ◌∷◌, map, Bool, true, false, cond, Option, Some, None, refl, sym, ap, ◌∙◌, subst}
use Rattle.std.specs.Prelude.{nat_lt}
use Rattle.scheme_model.specs.declared.Occ.{Occ}
use Rattle.scheme_model.specs.Identifiers.{Number}
use Rattle.scheme_model.specs.Trees.{Trees, Tail}
use Rattle.scheme_model.specs.ExpansionFaults.{Named, UseBudget}
use Rattle.scheme_model.specs.Keywords.{CoreKeyword, Auxiliary, core_named, auxiliary_named}
use Rattle.scheme_model.specs.Meaning.{Meaning, Local, Global, Standard, Free, Head, IsCore, IsAuxiliary, IsMacro, IsNone, macro_or_none, other_standard, standard_head, head_as, same_meaning, is_keyword}
use Rattle.scheme_model.specs.RulesShape.{role_of, dots_of}
use Rattle.scheme_model.specs.Matching.{Chosen, matcher, first_match, compared}
use Rattle.scheme_model.specs.Building.{build}
use Rattle.scheme_model.specs.Cores.{Target}
use Rattle.scheme_model.specs.Steps.{◌>>=◌, done, fails}
use Rattle.scheme_model.specs.Order.{Here, WaitingUse, Instance, Transformer, Meant, Note, Compared, is_some, target_of, head_of, has_use, comparisons, compared_asked, used, use_of, meet_waiting, meet_all, max_uses, max_nodes, Counted, given}
use Rattle.scheme_model.specs.Substitution.{note_map}
use Rattle.scheme_model.specs.Renaming.{pair_map}
use Rattle.scheme_model.proofs.RenamingLaws.{Finds, finds, map_turned}
use Rattle.renumbering_laws.specs.Moving.{move_tree, move_trees, move_tail, move_named, move_rule, move_rules}
use Rattle.renumbering_laws.specs.Renumbering.{Renumbering, number, place, ident, meaning, target, use_as}
use Rattle.renumbering_laws.proofs.Sides.{no_macro, a_macro, Sides, Macros}
use Rattle.renumbering_laws.proofs.MovedParts.{move_binding, move_chosen}
use Rattle.renumbering_laws.proofs.MovedRules.{role_of-map, dots_of-map}
use Rattle.renumbering_laws.proofs.MovedMatches.{first_match-map}
use Rattle.renumbering_laws.proofs.MovedBuilds.{build-map}
use Rattle.renumbering_laws.proofs.MovedComparisons.{compared-map}
use Rattle.renumbering_laws.proofs.OneToOne.{same_moved}
use Rattle.renumbering_laws.proofs.SideSteps.{moved, told, Goes, goes, goes_at, goes_bind, goes_read}
use Rattle.renumbering_laws.proofs.SideQuestions.{comparisons_asked, literals_asked}

-- ---- heads

abbrev pub head_moved : Renumbering → Head → Head
head_moved r (IsCore k) = IsCore k
head_moved r (IsAuxiliary a) = IsAuxiliary a
head_moved r (IsMacro m) = IsMacro (meaning r m)
head_moved r IsNone = IsNone

pub keyword_seen : (r : Renumbering) (x : Head) → is_keyword (head_moved r x) ≡ is_keyword x
keyword_seen r (IsCore k) = refl
keyword_seen r (IsAuxiliary a) = refl
keyword_seen r (IsMacro m) = refl
keyword_seen r IsNone = refl

macro_seen : (r : Renumbering) (t : Bool) (m : Meaning) → macro_or_none t (meaning r m) ≡ head_moved r (macro_or_none t m)
macro_seen r true m = refl
macro_seen r false m = refl

other_seen : (r : Renumbering) (a : Option Auxiliary) (t : Bool) (m : Meaning) → other_standard a t (meaning r m) ≡ head_moved r (other_standard a t m)
other_seen r (Some a) t m = refl
other_seen r None t m = macro_seen r t m

standard_seen : (r : Renumbering) (k : Option CoreKeyword) (a : Option Auxiliary) (t : Bool) (m : Meaning) → standard_head k a t (meaning r m) ≡ head_moved r (standard_head k a t m)
standard_seen r (Some k) a t m = refl
standard_seen r None a t m = other_seen r a t m

head_seen : (r : Renumbering) (p p' : Meaning → Bool) (m : Meaning) → p' (meaning r m) ≡ p m → head_as p' (meaning r m) ≡ head_moved r (head_as p m)
head_seen r p p' (Local v) e = ap (λ t. macro_or_none t (Local (number r v))) e ∙ macro_seen r (p (Local v)) (Local v)
head_seen r p p' (Global u i) e = ap (λ t. macro_or_none t (Global (r.unit u) (ident r i))) e ∙ macro_seen r (p (Global u i)) (Global u i)
head_seen r p p' (Standard s) e = ap (λ t. standard_head (core_named s) (auxiliary_named s) t (Standard s)) e ∙ standard_seen r (core_named s) (auxiliary_named s) (p (Standard s)) (Standard s)
head_seen r p p' (Free s) e = refl

module _ (h : Sides) where
  has_macro : {o : Option (Transformer h.E h.A)} {o' : Option (Transformer h.E' h.A')} → Macros h.around (moved h) o o' → is_some o' ≡ is_some o
  has_macro no_macro = refl
  has_macro (a_macro m e k) = refl

  pub head_goes : (e : h.E) (e' : h.E') → h.around e e' → (s : h.S) (s' : h.S') → h.state s s' → (i : h.A) → head_of h.two e' s' (h.on i) ≡ head_moved h.r (head_of h.one e s i)
  head_goes e e' k s s' m i =
      ap (head_as (λ x. is_some (h.two.transformer s' x))) (h.means e e' k s s' m i)
      ∙ head_seen h.r (λ x. is_some (h.one.transformer s x)) (λ x. is_some (h.two.transformer s' x)) (h.one.means e s i) (has_macro (h.transformer s s' m (h.one.means e s i)))

  pub target_goes : (e : h.E) (e' : h.E') → h.around e e' → (s : h.S) (s' : h.S') → h.state s s' → (i : h.A) (o : Option Occ) → target_of h.two e' s' (h.on i) (place h.r o) ≡ target h.r (target_of h.one e s i o)
  target_goes e e' k s s' m i o = let a = h.means e e' k s s' m i in let b = h.plain i in λ j. record { meaning = a j; ident = b j; occ = place h.r o }

  -- ---- uses

  module _ (here : Here) (e : h.E) (e' : h.E') (around : h.around e e') (k : Target) (m : Transformer h.E h.A) (d : h.E') (at : h.around m.env d) where
    abbrev pub m' : Transformer h.E' h.A'
    m' = record { env = d; rules = move_rules (moved h) m.rules }

    abbrev pub instance_moved : Instance h.A → Instance h.A'
    instance_moved i = record { tree = move_tree (moved h) i.tree; met = use_as h.r h.on i.met }

    abbrev chosen_moved : Chosen h.A h.A → Chosen h.A' h.A'
    chosen_moved o = move_chosen (moved h) (moved h) o

    -- the instance of the chosen rule, once the use has begun
    instance_goes : (n : Number) (t : h.S) (t' : h.S') → h.state t t' → (o : Chosen h.A h.A)
        → Goes h instance_moved (used h.one here k m n (Some o) t) (used h.two (place h.r here) (target h.r k) m' (number h.r n) (Some (chosen_moved o)) t')
    instance_goes n t t' l o =
        goes_at h (ap (λ (c : Counted). given h.two.plain (place h.r here) (build h.two.names (move_rules (moved h) m.rules) (λ i. h.two.insert i (number h.r n)) (move_tree (moved h) o.rule.template) (map (move_binding (moved h) (moved h)) o.match.bindings) (max_nodes - c.nodes)) t' >>= λ b u.
        done (record { tree = b.value; met = record { keyword = target h.r k; literals = map (move_named (moved h)) o.match.met } }) (h.two.spend b.count u)) (h.counted t t' l))
        (goes_bind h _ _
        (goes_read h here t t' l (build-map h.A h.A h.A' h.A' (moved h) (moved h) refl (λ p. refl) h.A h.A' (moved h) h.one.names h.two.names (told h) m.rules (λ i. h.one.insert i n) (λ i. h.two.insert i (number h.r n)) (λ i. h.insert i n) o.rule.template o.match.bindings (max_nodes - (h.one.counted t).nodes)))
        (λ b u u' g. goes refl (h.spend b.count u u' g)))

    by_choice : (n : Number) (t : h.S) (t' : h.S') → h.state t t' → (o : Option (Chosen h.A h.A)) (o' : Option (Chosen h.A' h.A')) → Finds chosen_moved o o'
        → Goes h instance_moved (used h.one here k m n o t) (used h.two (place h.r here) (target h.r k) m' (number h.r n) o' t')
    by_choice n t t' l None o' (finds d) = goes_at h (ap (λ z. used h.two (place h.r here) (target h.r k) m' (number h.r n) z t') d) (goes refl l)
    by_choice n t t' l (Some o) o' (finds d) = goes_at h (ap (λ z. used h.two (place h.r here) (target h.r k) m' (number h.r n) z t') d) (instance_goes n t t' l o)

    module _ (ts : Trees h.A) (tail : Tail h.A) (s : h.S) (s' : h.S') (l : h.state s s') where
      abbrev one_chosen : Option (Chosen h.A h.A)
      one_chosen = first_match (matcher h.one.names m.rules (λ x y. same_meaning (h.one.means m.env s x) (h.one.means e s y))) m.rules.rules ts tail

      abbrev two_chosen : Option (Chosen h.A' h.A')
      two_chosen = first_match (matcher h.two.names (move_rules (moved h) m.rules) (λ x y. same_meaning (h.two.means d s' x) (h.two.means e' s' y))) (map (move_rule (moved h)) m.rules.rules) (move_trees (moved h) ts) (move_tail (moved h) tail)

      literals_same : (x y : h.A) → same_meaning (h.two.means d s' (h.on x)) (h.two.means e' s' (h.on y)) ≡ same_meaning (h.one.means m.env s x) (h.one.means e s y)
      literals_same x y =
          (let a = h.means m.env d at s s' l x in let b = h.means e e' around s s' l y in λ j. same_meaning (a j) (b j)) ∙ same_moved h.r h.one_to_one (h.one.means m.env s x) (h.one.means e s y)

      chosen_found : Finds chosen_moved one_chosen two_chosen
      chosen_found =
          first_match-map h.A h.A h.A' h.A' (moved h) (moved h) refl (matcher h.one.names m.rules (λ x y. same_meaning (h.one.means m.env s x) (h.one.means e s y))) (matcher h.two.names (move_rules (moved h) m.rules) (λ x y. same_meaning (h.two.means d s' x) (h.two.means e' s' y)))
          (record { role = role_of-map h.A h.A' (moved h) h.one.names h.two.names (told h) m.rules; dots = dots_of-map h.A h.A' (moved h) h.one.names h.two.names (told h) m.rules; means = literals_same }) m.rules.rules ts tail

      abbrev one_began : h.S
      one_began = h.one.begin_use m.env (h.one.ask (compared_asked h.one e m ts tail) s)

      abbrev two_began : h.S'
      two_began = h.two.begin_use d (h.two.ask (compared_asked h.two e' m' (move_trees (moved h) ts) (move_tail (moved h) tail)) s')

      began : h.state one_began two_began
      began = h.begin_use m.env d at _ _ (h.ask (compared_asked h.one e m ts tail) (compared_asked h.two e' m' (move_trees (moved h) ts) (move_tail (moved h) tail)) (comparisons_asked h e e' around m d at ts tail) s s' l)

      has_same : has_use h.two s' ≡ has_use h.one s
      has_same = ap (λ (c : Counted). nat_lt c.uses max_uses) (h.counted s s' l)

      pub use_goes : Goes h instance_moved (use_of h.one here e k m ts tail s) (use_of h.two (place h.r here) e' (target h.r k) m' (move_trees (moved h) ts) (move_tail (moved h) tail) s')
      use_goes =
          goes_at h (let c = has_same in let n = h.next_use s s' l in
          λ j. cond (c j) (used h.two (place h.r here) (target h.r k) m' (n j) two_chosen two_began) (fails (place h.r here) UseBudget s')) (go (has_use h.one s))
        where
          go : (t : Bool) → Goes h instance_moved (cond t (used h.one here k m (h.one.next_use s) one_chosen one_began) (fails here UseBudget s))
              (cond t (used h.two (place h.r here) (target h.r k) m' (number h.r (h.one.next_use s)) two_chosen two_began) (fails (place h.r here) UseBudget s'))
          go true = by_choice (h.one.next_use s) _ _ began one_chosen two_chosen chosen_found
          go false = goes refl l

      abbrev one_note : h.A × h.A → Note h.L
      one_note q = Compared (h.one.place m.env q.0) (h.one.place e q.1) (same_meaning (h.one.means m.env s q.0) (h.one.means e s q.1))

      abbrev two_note : h.A' × h.A' → Note h.L'
      two_note q = Compared (h.two.place d q.0) (h.two.place e' q.1) (same_meaning (h.two.means d s' q.0) (h.two.means e' s' q.1))

      pub comparisons_goes : comparisons h.two e' m' (move_trees (moved h) ts) (move_tail (moved h) tail) s' ≡ map (note_map h.look) (comparisons h.one e m ts tail s)
      comparisons_goes = (let a = has_same in let b = all_noted in λ j. cond (a j) (b j) []) ∙ go (has_use h.one s)
        where
          all_noted : map two_note (compared (role_of h.two.names (move_rules (moved h) m.rules)) (dots_of h.two.names (move_rules (moved h) m.rules)) (map (move_rule (moved h)) m.rules.rules) (move_trees (moved h) ts) (move_tail (moved h) tail))
              ≡ map (note_map h.look) (map one_note (compared (role_of h.one.names m.rules) (dots_of h.one.names m.rules) m.rules.rules ts tail))
          all_noted =
              ap (map two_note) (compared-map h.A h.A h.A' h.A' (moved h) (moved h) refl (role_of h.one.names m.rules) (role_of h.two.names (move_rules (moved h) m.rules)) (role_of-map h.A h.A' (moved h) h.one.names h.two.names (told h) m.rules)
              (dots_of h.one.names m.rules) (dots_of h.two.names (move_rules (moved h) m.rules)) (dots_of-map h.A h.A' (moved h) h.one.names h.two.names (told h) m.rules) m.rules.rules ts tail)
              ∙ map_turned two_note (pair_map h.on h.on) (note_map h.look) one_note
              (λ q. let a = h.place m.env d at q.0 in let b = h.place e e' around q.1 in let c = literals_same q.0 q.1 in λ j. Compared (a j) (b j) (c j))
              (compared (role_of h.one.names m.rules) (dots_of h.one.names m.rules) m.rules.rules ts tail)

          go : (t : Bool) → cond t (map (note_map h.look) (map one_note (compared (role_of h.one.names m.rules) (dots_of h.one.names m.rules) m.rules.rules ts tail))) []
              ≡ map (note_map h.look) (cond t (map one_note (compared (role_of h.one.names m.rules) (dots_of h.one.names m.rules) m.rules.rules ts tail)) [])
          go true = refl
          go false = refl

  -- ---- uses that wait

  abbrev pub use_moved : WaitingUse h.A → WaitingUse h.A'
  use_moved u = use_as h.r h.on u

  module _ (e : h.E) (e' : h.E') (around : h.around e e') where
    pub waiting_met : (u : WaitingUse h.A) (s : h.S) (s' : h.S') → h.state s s' → h.state (meet_waiting h.one e u s) (meet_waiting h.two e' (use_moved u) s')
    waiting_met u s s' l =
        subst (λ (ls : List Target). h.state (meet_waiting h.one e u s) (h.two.meet_use (record { keyword = target h.r u.keyword; literals = ls }) (h.two.ask (map (λ n. Meant e' n.name) (map (move_named (moved h)) u.literals)) s')))
        (sym (map_turned (λ (y : Named h.A'). target_of h.two e' s' y.name y.occ) (move_named (moved h)) (target h.r) (λ (y : Named h.A). target_of h.one e s y.name y.occ) (λ y. target_goes e e' around s s' l y.name y.occ) u.literals))
        (h.meet_use (record { keyword = u.keyword; literals = map (λ y. target_of h.one e s y.name y.occ) u.literals }) _ _ (h.ask (map (λ n. Meant e n.name) u.literals) (map (λ n. Meant e' n.name) (map (move_named (moved h)) u.literals)) (literals_asked h e e' around u.literals) s s' l))

    pub all_met : (us : List (WaitingUse h.A)) (s : h.S) (s' : h.S') → h.state s s' → h.state (meet_all h.one e us s) (meet_all h.two e' (map use_moved us) s')
    all_met [] s s' l = l
    all_met (u ∷ us) s s' l = all_met us _ _ (waiting_met u s s' l)
