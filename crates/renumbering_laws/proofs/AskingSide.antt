-- A form with its questions under old numbers and under new ones: where its turn comes in surroundings that correspond, it goes to the
-- same moment and asks the same, renumbered.
use Rattle.std.proofs.Common.{◌≡◌, ℕ, suc, List, [], ◌∷◌, ◌++◌, map, Option, Some, None, Result, refl, sym, ap, ◌∙◌, subst}
use Rattle.scheme_model.specs.Identifiers.{Number}
use Rattle.scheme_model.specs.Ident.{Ident}
use Rattle.scheme_model.specs.Trees.{Tree}
use Rattle.scheme_model.specs.ExpansionFaults.{Named, Fault}
use Rattle.scheme_model.specs.Meaning.{Meaning, Local, Global, Standard, Free}
use Rattle.scheme_model.specs.RulesShape.{Rules, option_map}
use Rattle.scheme_model.specs.Steps.{Broken}
use Rattle.scheme_model.specs.Cores.{Part}
use Rattle.scheme_model.specs.Order.{Item, WaitingUse, Left, Pending, Renamed, Transformer, Asked, Ops, meet_all}
use Rattle.scheme_model.specs.Expression.{item_part, expand}
use Rattle.scheme_model.specs.UnitExpansion.{one_form}
use Rattle.scheme_model.specs.ScopedExpansion.{Bind, Enter, Frames, FramedIdent, body_around, assigned}
use Rattle.scheme_model.specs.OwnAnswers.{own_local}
use Rattle.scheme_model.specs.Questions.{Moment, Around, at_moment, own_at, number_in, outcome, Question, LooksUp, Compares, IsAssigned, Defines, unless_own, unless_local, in_unit, left_to_ask, dated, all_left, Asking, bound_at, ended, asking}
use Rattle.scheme_model.specs.FormsAlike.{no_questions, set_aside_asking, finish_asking}
use Rattle.scheme_model.proofs.RenamingLaws.{append_map}
use Rattle.renumbering_laws.specs.Moving.{Change, move_tree, move_named, move_rules}
use Rattle.renumbering_laws.specs.Renumbering.{Renumbering, IsOneToOne, number, ident, meaning, change, target, macro_use_as, parts_as, part_as, result_as, item_as, use_as, left_as, pending_as}
use Rattle.renumbering_laws.specs.Asked.{new_frames, new_framed, new_macro, new_use, new_moment, new_question, new_asked, new_asking, new_pass, AroundMoves, TurnsMove}
use Rattle.renumbering_laws.proofs.Sides.{no_macro, a_macro, regions, meant, headed, rules_of, alike, assigns, library, AskedMoves, All, DefinedMoves, Sides, Macros}
use Rattle.renumbering_laws.proofs.OneToOne.{ident_moved}
use Rattle.renumbering_laws.proofs.ScopedSide.{symbol_moved}
use Rattle.renumbering_laws.proofs.NewAnswers.{body_moved, own_local_moved, number_in_moved, means_at_moment, macro_moved, assigned_moved, bound_moved, outcome_moved, ended_moved}
use Rattle.renumbering_laws.proofs.SideSteps.{Goes as Steps, goes}
use Rattle.renumbering_laws.proofs.SideUses.{all_met}
use Rattle.renumbering_laws.proofs.SideExpressions.{item_goes, expand_goes}
use Rattle.renumbering_laws.proofs.SideLaws.{set_aside_law, finished_law}

unless_own_moved : (r : Renumbering) (x : Option Number) (qs : List Question) → unless_own (option_map (number r) x) (map (new_question r) qs) ≡ map (new_question r) (unless_own x qs)
unless_own_moved r None qs = refl
unless_own_moved r (Some v) qs = refl

unless_local_moved : (r : Renumbering) (m : Meaning) → unless_local (meaning r m) ≡ map (new_question r) (unless_local m)
unless_local_moved r (Local k) = refl
unless_local_moved r (Global u i) = refl
unless_local_moved r (Standard s) = refl
unless_local_moved r (Free s) = refl

in_unit_moved : (r : Renumbering) (b : Option Number) (q : Question) → in_unit (option_map (number r) b) (new_question r q) ≡ map (new_question r) (in_unit b q)
in_unit_moved r None q = refl
in_unit_moved r (Some b) q = refl

dated_moved : (r : Renumbering) (n : Moment) (qs : List Question) → dated (new_moment r n) (map (new_question r) qs) ≡ map (new_asked r) (dated n qs)
dated_moved r n [] = refl
dated_moved r n (q ∷ qs) = ap (λ xs. (new_moment r n, new_question r q) ∷ xs) (dated_moved r n qs)

module _ (r : Renumbering) (o : IsOneToOne r) where
  abbrev mv : Change Ident Ident
  mv = change r

  abbrev FramesMove : Frames → Frames → Type 0
  FramesMove e e' = e' ≡ new_frames r e

  abbrev Moves : Asked Frames Ident → Asked Frames Ident → Type 0
  Moves q q' = AskedMoves r (ident r) FramesMove q q'

  -- ---- what is left to ask

  module _ (n : Moment) where
    abbrev n' : Moment
    n' = new_moment r n

    looked_up : (e e' : Frames) → FramesMove e e' → (i : Ident) → unless_own (own_local (own_at n') e' (ident r i)) (LooksUp (ident r i) ∷ []) ≡ map (new_question r) (unless_own (own_local (own_at n) e i) (LooksUp i ∷ []))
    looked_up e e' k i =
        ap (λ fs. unless_own (own_local (own_at n') fs (ident r i)) (LooksUp (ident r i) ∷ [])) k
        ∙ (ap (λ x. unless_own x (LooksUp (ident r i) ∷ [])) (own_local_moved r o n e i) ∙ unless_own_moved r (own_local (own_at n) e i) (LooksUp i ∷ []))

    left_moved : (q q' : Asked Frames Ident) → Moves q q' → left_to_ask n' q' ≡ map (new_question r) (left_to_ask n q)
    left_moved _ _ (meant e e' k i) = looked_up e e' k i
    left_moved _ _ (headed e e' k i) = looked_up e e' k i
    left_moved _ _ (rules_of m) = unless_local_moved r m
    left_moved _ _ (alike d d' h l e e' k i) =
        (λ j. unless_own (own_local (own_at n') (h j) (ident r l)) (unless_own (own_local (own_at n') (k j) (ident r i)) (Compares (ident r l) (ident r i) ∷ [])))
        ∙ ((let a = own_local_moved r o n d l in let b = own_local_moved r o n e i in λ j. unless_own (a j) (unless_own (b j) (Compares (ident r l) (ident r i) ∷ [])))
        ∙ (ap (unless_own (option_map (number r) (own_local (own_at n) d l))) (unless_own_moved r (own_local (own_at n) e i) (Compares l i ∷ []))
        ∙ unless_own_moved r (own_local (own_at n) d l) (unless_own (own_local (own_at n) e i) (Compares l i ∷ []))))
    left_moved _ _ (assigns e e' k i) = ap (λ b. in_unit b (IsAssigned (ident r i))) (ap body_around k ∙ body_moved r e) ∙ in_unit_moved r (body_around e) (IsAssigned i)
    left_moved _ _ (library x) = refl

    all_left_moved : (qs qs' : List (Asked Frames Ident)) → All Moves qs qs' → all_left n' qs' ≡ map (new_asked r) (all_left n qs)
    all_left_moved [] [] h = refl
    all_left_moved [] (q' ∷ qs') h = absurd h
    all_left_moved (q ∷ qs) [] h = absurd h
    all_left_moved (q ∷ qs) (q' ∷ qs') h =
        append_map (new_asked r) (dated n (left_to_ask n q)) (all_left n qs) (ap (dated n') (left_moved q q' h.0) ∙ dated_moved r n (left_to_ask n q)) (all_left_moved qs qs' h.1)

  to_transformer : (x y : Option (Transformer Frames Ident)) → y ≡ option_map (new_macro r) x → Macros FramesMove mv x y
  to_transformer x y e = subst (λ z. Macros FramesMove mv x z) (sym e) (go x)
    where
      go : (z : Option (Transformer Frames Ident)) → Macros FramesMove mv z (option_map (new_macro r) z)
      go None = no_macro
      go (Some m) = a_macro m (new_frames r m.env) refl

  module _ (w v : Around) (t : TurnsMove r w v) where
    abbrev l : AroundMoves r w v
    l = t.around

    abbrev one : Ops Frames Ident FramedIdent Asking
    one = asking w

    abbrev two : Ops Frames Ident FramedIdent Asking
    two = asking v

    abbrev Goes : Asking → Asking → Type 0
    Goes s s' = s' ≡ new_asking r s

    asked_moved : (s : Asking) (qs qs' : List (Asked Frames Ident)) → All Moves qs qs' → two.ask qs' (new_asking r s) ≡ new_asking r (one.ask qs s)
    asked_moved s qs qs' h = ap (λ (xs : List (Moment × Question)). record { moment = new_moment r s.moment; asked = xs }) (append_map (new_asked r) (all_left s.moment qs) s.asked (all_left_moved s.moment qs qs' h) refl)

    begun_moved : (s : Asking) (e : Frames) → two.begin_use (new_frames r e) (new_asking r s) ≡ new_asking r (one.begin_use e s)
    begun_moved s e =
        let n = s.moment in
        ap (λ (k : Number). record { moment = record (new_moment r n) { uses = suc n.uses; places = record { use_number = k; frames = new_frames r e } ∷ map (new_use r) n.places }; asked = map (new_asked r) s.asked })
        (number_in_moved r o w v l n.uses)

    -- ---- definitions

    module _ (x : Named Ident) (rs : Option (Rules Ident)) (e : Frames) (p : Pending Ident FramedIdent) (s : Asking) where
      abbrev Defined : Result (Renamed Ident FramedIdent) (Fault Ident) × Asking → Type 0
      Defined q' = DefinedMoves r (ident r) (new_framed r) (one.define x rs e p s).0 q'.0 × Goes (one.define x rs e p s).1 q'.1

      define_at : (e' : Frames) → FramesMove e e' → (s' : Asking) → Goes s s' → Defined (two.define (move_named mv x) (option_map (move_rules mv) rs) e' (pending_as r (ident r) (new_framed r) p) s')
      define_at e' k s' h =
          let n = s.moment in let b = body_around e in let c = outcome w n b e x rs p.notes in
          let x' = move_named mv x in let rs' = option_map (move_rules mv) rs in let p' = pending_as r (ident r) (new_framed r) p in
          let q = Defines e x rs p.notes in
          let m = ended_moved r o w v l n x rs e b p c in
          let there = ended c v (option_map (number r) b) x' rs' (new_frames r e) p' (new_moment r n) in
          let more = append_map (new_asked r) (dated n (in_unit b q)) s.asked (ap (dated (new_moment r n)) (in_unit_moved r b q) ∙ dated_moved r n (in_unit b q)) refl in
          let qs = dated (new_moment r n) (in_unit (option_map (number r) b) (new_question r q)) ++ map (new_asked r) s.asked in
          let at : two.define x' rs' e' p' s' ≡ (there.0, record { moment = there.1; asked = qs }) =
          (λ j. two.define x' rs' (k j) p' (h j))
          ∙ (ap (λ (z : Option Number). let y = ended (outcome v (new_moment r n) z (new_frames r e) x' rs' p'.notes) v z x' rs' (new_frames r e) p' (new_moment r n) in (y.0, record { moment = y.1; asked = dated (new_moment r n) (in_unit z (new_question r q)) ++ map (new_asked r) s.asked })) (body_moved r e)
          ∙ ap (λ z. let y = ended z v (option_map (number r) b) x' rs' (new_frames r e) p' (new_moment r n) in (y.0, record { moment = y.1; asked = qs })) (outcome_moved r o w v l n x rs e b p.notes)) in
          subst Defined (sym at) (m.0, (let a = m.1 in λ j. record { moment = a j; asked = more j }))

    -- ---- the operations

    abbrev asking_sides : Sides
    asking_sides = record {
      r = r;
      one_to_one = o;
      E = Frames;
      A = Ident;
      L = FramedIdent;
      S = Asking;
      E' = Frames;
      A' = Ident;
      L' = FramedIdent;
      S' = Asking;
      one = one;
      two = two;
      on = ident r;
      look = new_framed r;
      unit = w.state.unit;
      around = FramesMove;
      state = Goes;
      same = ident_moved r o;
      strip = symbol_moved r;
      plain = λ i. refl;
      insert = λ i k. refl;
      place = λ e e' k i. ap (λ fs. record { frames = fs; ident = ident r i }) k;
      means = λ e e' k s s' h i. (λ j. two.means (k j) (h j) (ident r i)) ∙ means_at_moment r o w v l s.moment e i;
      transformer = λ s s' h m. to_transformer (one.transformer s m) (two.transformer s' (meaning r m)) (ap (λ z. two.transformer z (meaning r m)) h ∙ macro_moved r o w v l s.moment m);
      known = l.known;
      ask = λ qs qs' a s s' h. ap (two.ask qs') h ∙ asked_moved s qs qs' a;
      is_assigned = λ e e' k s s' h i. (λ j. two.is_assigned (k j) (h j) (ident r i)) ∙ (ap (λ b. assigned (at_moment v (new_moment r s.moment)) b (ident r i)) (body_moved r e) ∙ assigned_moved r o w v l s.moment (body_around e) i);
      counted = λ s s' h. ap two.counted h;
      turn = λ f s s' h. h;
      spend = λ n s s' h. ap (two.spend n) h;
      meet = λ x s s' h. ap (two.meet (target r x)) h;
      meet_use = λ x s s' h. ap (two.meet_use (macro_use_as r x)) h;
      next_use = λ s s' h. ap two.next_use h ∙ number_in_moved r o w v l s.moment.uses;
      begin_use = λ e e' k s s' h. (λ j. two.begin_use (k j) (h j)) ∙ begun_moved s e;
      next_local = λ s s' h. ap two.next_local h ∙ number_in_moved r o w v l s.moment.locals;
      take_local = λ s s' h. ap two.take_local h;
      next_bound = λ e e' k s s' h. (λ j. two.next_bound (k j) (h j)) ∙ (ap (bound_at v (new_moment r s.moment)) (body_moved r e) ∙ bound_moved r o w v l s.moment t.counts (body_around e));
      bind = λ i e e' k ts s s' h. regions (let a = ap two.next_local h ∙ number_in_moved r o w v l s.moment.locals in λ j. Bind (ident r i) (a j) ∷ k j) refl (ap two.take_local h);
      keep = λ x rs e e' k s s' h. (λ j. two.keep (number r x) (move_rules mv rs) (k j) (h j));
      enter = λ e e' k ts s s' h. regions (let a = ap (λ (z : Asking). number_in v z.moment.bodies) h ∙ number_in_moved r o w v l s.moment.bodies in λ j. Enter (a j) (λ f. 0) ∷ k j) refl (ap (λ (z : Asking). (two.enter [] ts z).state) h);
      define = λ x rs e e' k p s s' h. define_at x rs e p s e' k s' h;
    }

    -- ---- the form

    begun : Goes (no_questions w) (no_questions v)
    begun = ap (λ (m : Moment). record { moment = m; asked = [] }) t.begun

    pub set_aside_asks : (turns : ℕ) (x : Tree Ident) → let p = set_aside_asking w turns x in set_aside_asking v turns (move_tree mv x) ≡ (new_pass r p.0, new_asking r p.1)
    set_aside_asks turns x =
        let h = set_aside_law asking_sides [] [] refl turns (one_form x []) (no_questions w) (no_questions v) begun in
        let a = h.result in let b = h.states in λ j. (a j, b j)

    pub finish_asks : (turns : ℕ) (x : Result (Left Ident) Broken) → let p = finish_asking w turns x in finish_asking v turns (result_as r (left_as r (ident r)) x) ≡ (result_as r (parts_as r) p.0, new_asking r p.1)
    finish_asks turns x =
        let h = finished_law asking_sides [] [] refl turns x (no_questions w) (no_questions v) begun in
        let a = h.result in let b = h.states in λ j. (a j, b j)

    -- ---- parts of the form

    pub uses_ask : (us : List (WaitingUse Ident)) (s : Asking) → meet_all two [] (map (use_as r (ident r)) us) (new_asking r s) ≡ new_asking r (meet_all one [] us s)
    uses_ask us s = all_met asking_sides [] [] refl us s (new_asking r s) refl

    both_told : {q : Result Part Broken × Asking} {q' : Result Part Broken × Asking} → Steps asking_sides (part_as r) q q' → q' ≡ (result_as r (part_as r) q.0, new_asking r q.1)
    both_told (goes a b) = λ j. (a j, b j)

    pub item_asks : (turns depth : ℕ) (i : Item Ident) (s : Asking)
        → let p = item_part (expand one turns) one depth [] i s in item_part (expand two turns) two depth [] (item_as r (ident r) i) (new_asking r s) ≡ (result_as r (part_as r) p.0, new_asking r p.1)
    item_asks turns depth i s =
        let both = expand_goes asking_sides turns in
        both_told (item_goes asking_sides (expand one turns) (expand two turns) both.0 both.1 depth [] [] refl i s (new_asking r s) refl)
