-- Two units with the same forms, each of which is kept and mentions some units alone: where each of these is the same at the start, so is
-- it at each turn, and the forms are kept in both.
use Rattle.std.proofs.Common.{◌≡◌, ℕ, List, [], ◌∷◌, map, true, Option, Some, None, Result, refl, sym, ◌∙◌, subst}
use Rattle.scheme_model.specs.Ident.{Ident, Written}
use Rattle.scheme_model.specs.Requirements.{Known}
use Rattle.scheme_model.specs.Cores.{Parts}
use Rattle.scheme_model.specs.Steps.{Broken}
use Rattle.scheme_model.specs.Order.{Left, Note, Pass}
use Rattle.scheme_model.specs.UnitExpansion.{one_form, unless_over}
use Rattle.scheme_model.specs.ScopedExpansion.{FramedIdent, ScopedState}
use Rattle.scheme_model.specs.CountedExpansion.{counted}
use Rattle.scheme_model.specs.Questions.{Around}
use Rattle.scheme_model.specs.FormsAlike.{set_aside, start, bare_note}
use Rattle.scheme_model.specs.IncludedUnits.{Placed}
use Rattle.scheme_model.specs.Program.{Prepared, enough_turns, is_ready, forms_at_work}
use Rattle.scheme_model.specs.ScopedProgram.{scoped_work, scoped_before, forms_over, scoped_start_after}
use Rattle.model_laws.proofs.FrameAsks.{AllOf}
use Rattle.model_laws.proofs.UnitEnds.{Both, both_go, both_then, both_over}
use Rattle.form_laws.specs.Begins.{Each}
use Rattle.question_laws.specs.Noted.{IsClosed}
use Rattle.question_laws.proofs.ClosedSteps.{run_later, form_later}
use Rattle.question_laws.proofs.ClosedPrograms.{programs_closed}
use Rattle.kept_forms.specs.KeptForms.{KeptParts, FormOrKept, form_of, LeftOrKept, around_form, counts_at, comes_to, numbers_of}
use Rattle.kept_forms.specs.Carried.{Onwards, FormFits}
use Rattle.kept_forms.proofs.OneForm.{BegunAt}
use Rattle.kept_forms.proofs.Programs.{between_at, placed_at, new_unit}
use Rattle.forgotten_locals.specs.Ways.{Way, anew, left_of, firsts_by, AtFirsts, AtSeconds, AllKept, CanBegin, RestCanBegin, AllBegin, IsKept, IsRestKept}
use Rattle.forgotten_locals.proofs.Turns.{onwards_left, onwards_right, right_onwards, rest_same, RestIsOf, left_fits, begun_fits}
use Rattle.forgotten_locals.proofs.Units.{begins}
use Rattle.mentioned_units.specs.Mentioned.{Mask, NoteIn, IsMentioned, IsRestMentioned, AllMentioned}
use Rattle.mentioned_units.specs.Unchanged.{Unchanged, KnowsSame, SameSoFar}
use Rattle.mentioned_units.proofs.Turns.{Alike, nodes_alike, form_mentions, left_mentions, mentioned_kept, mentioned_rest, PassAlike, pass_alike, rest_alike}

module _ (mask : Mask) (turns : ℕ) (known knows : Known) (same : KnowsSame mask known knows) (fs : List ℕ) where
  abbrev way : Way
  way = anew turns

  -- both are the same so far, and what is imported stands in both
  record Now (s t : ScopedState) : Type 0 where
    alike : Alike mask s t
    closed : IsClosed s
    there : IsClosed t

  around_now : (form : ℕ) (ns ms : List (Note FramedIdent)) (s t : ScopedState) → Alike mask s t → map bare_note ms ≡ map bare_note ns → Each (NoteIn mask) ns → SameSoFar mask (around_form known form ns s) (around_form knows form ms t)
  around_now form ns ms s t h d n =
      let k = h.same in
      record {
        form = refl;
        state = record { unit = k.unit; program = k.program; units = λ u q. let x = k.units u q in record { defined = x.defined; imports = x.imports; macros = x.macros }; standard = k.standard; free = k.free; count = k.count };
        known = same;
        notes = d;
        noted = n;
      }

  closed_turned : (f : ℕ) (s : ScopedState) → IsClosed s → IsClosed (record s { form = f })
  closed_turned f s h = record { imports = h.imports; kept = h.kept }

  -- ---- second turns

  abbrev SecondsMention : Known → List LeftOrKept → ScopedState → Type 0
  SecondsMention k rs s = AtSeconds (λ v (r : LeftOrKept). IsRestMentioned mask turns v r.left r.kept) way k fs rs s

  abbrev SecondsBegin : Known → List LeftOrKept → ScopedState → Type 0
  SecondsBegin k rs s = AtSeconds RestCanBegin way k fs rs s

  begun_at : (v : Around) (r : LeftOrKept) → start v.state ≡ r.counts → BegunAt r.counts r.kept → BegunAt (start v.state) r.kept
  begun_at v r e h = go r.kept h
    where
      go : (o : Option KeptParts) → BegunAt r.counts o → BegunAt (start v.state) o
      go None h = tt
      go (Some k) h = e ∙ h

  -- what is closed stays so where work goes on
  onwards_closed : (v : Around) (r : Result (Left Ident) Broken) → IsClosed v.state → Onwards (λ (p : Result Parts Broken) (u : ScopedState). IsClosed u) (comes_to v turns fs r None)
  onwards_closed v r h = go (comes_to v turns fs r None) ((form_later v.known turns fs r v.state).0 h)
    where
      go : (q : Option (Result Parts Broken) × ScopedState) → IsClosed q.1 → Onwards (λ (p : Result Parts Broken) (u : ScopedState). IsClosed u) q
      go (None, u) h = tt
      go (Some p, u) h = h

  seconds_mention : (rs : List LeftOrKept) (s t : ScopedState) → Now s t → SecondsBegin known rs s → SecondsBegin knows rs t → AllOf RestIsOf rs → SecondsMention known rs s → SecondsMention knows rs t
  seconds_mention [] s t n b c i m = tt
  seconds_mention (r ∷ rs) s t n b c i m =
      let v = around_form known r.form [] s in let u = around_form knows r.form [] t in
      let so_far = around_now r.form [] [] s t n.alike refl tt in
      let d = begun_at v r b.0.1 i.0.1 in let e = begun_at u r c.0.1 i.0.1 in
      let closed = closed_turned r.form s n.closed in let there = closed_turned r.form t n.there in
      let here = left_mentions mask v u turns so_far closed there r.left r.kept d e b.0.0 c.0.0 m.0 in
      let goes = rest_alike mask v u turns so_far n.alike.nodes fs r.left r.kept i.0.0 d e b.0.0 c.0.0 m.0 here in
      let first = onwards_left (λ p z. SecondsMention known rs z) m.1 (onwards_left (λ p z. SecondsBegin known rs z) b.1 (onwards_right (λ p z. SecondsBegin knows rs z) c.1
      (onwards_left (λ p z. IsClosed z) (onwards_closed v r.left closed) (onwards_right (λ p z. IsClosed z) (onwards_closed u r.left there) goes)))) in
      (here, right_onwards (λ p z. SecondsMention knows rs z) (λ z z2 x y g. seconds_mention rs z z2 (record { alike = g.1.1.1.1.1.0; closed = g.1.1.1.0; there = g.1.1.1.1.0 }) g.1.0 g.1.1.0 i.1 g.0) first)

  -- ---- first turns

  abbrev FirstsMention : Known → List FormOrKept → List (Note FramedIdent) → ScopedState → Type 0
  FirstsMention k xs ns s = AtFirsts (λ v (x : FormOrKept). IsMentioned mask turns v x.tree x.kept) way k fs xs ns s

  abbrev FirstsBegin : Known → List FormOrKept → List (Note FramedIdent) → ScopedState → Type 0
  FirstsBegin k xs ns s = AtFirsts CanBegin way k fs xs ns s

  record Gives (u u2 : ScopedState) (x y : List LeftOrKept) : Type 0 where
    now : Now u u2
    lists : y ≡ x
    rests : AllOf RestIsOf x

  abbrev Ended : ScopedState → ScopedState → Type 0
  Ended u u2 = Unit {0}

  record FirstsAlike (xs : List FormOrKept) (ns ms : List (Note FramedIdent)) (s t : ScopedState) : Type 0 where
    both : Both Ended Gives (firsts_by way known fs xs ns s) (firsts_by way knows fs xs ms t)
    mentions : FirstsMention knows xs ms t

  -- one form gone through in both
  record PassGives (form : ℕ) (v u : Around) (x : FormOrKept) (z z2 : ScopedState) (p q : Pass Ident FramedIdent) : Type 0 where
    now : Now z z2
    notes : map bare_note q.notes ≡ map bare_note p.notes
    noted : Each (NoteIn mask) p.notes
    left : left_of x u q z2 ≡ left_of x v p z
    rest : RestIsOf (left_of x v p z)

  module _ (x : FormOrKept) (ns ms : List (Note FramedIdent)) (s t : ScopedState) (n : Now s t) (d : map bare_note ms ≡ map bare_note ns) (noted : Each (NoteIn mask) ns) (b : CanBegin (around_form known x.form ns s) x) (c : CanBegin (around_form knows x.form ms t) x) (f : FormFits x.kept) (m : IsMentioned mask turns (around_form known x.form ns s) x.tree x.kept) where
    abbrev v : Around
    v = around_form known x.form ns s

    abbrev u : Around
    u = around_form knows x.form ms t

    abbrev so_far : SameSoFar mask v u
    so_far = around_now x.form ns ms s t n.alike d noted

    here : IsMentioned mask turns u x.tree x.kept
    here = form_mentions mask v u turns so_far (closed_turned x.form s n.closed) (closed_turned x.form t n.there) x.tree x.kept b.1 c.1 b.0 c.0 m

    goes : PassAlike mask x.form (set_aside v turns x.tree) (set_aside u turns x.tree)
    goes = pass_alike mask v u turns so_far n.alike.nodes x.tree x.kept b.1 c.1 b.0 c.0 m here

    both : Both Ended (PassGives x.form v u x) (unless_over (counted known) fs (set_aside v turns x.tree)) (unless_over (counted knows) fs (set_aside u turns x.tree))
    both =
        let q = set_aside v turns x.tree in let q2 = set_aside u turns x.tree in
        let counts : counts_at x.form q2.1 ≡ counts_at x.form q.1 = goes.counts in
        let l = goes.left in let k = rest_same u v x.kept so_far.state.count in
        both_over (counted known) (counted knows) fs q q2 (nodes_alike mask known knows fs q.1 q2.1 goes.state) tt
        (record {
          now = record { alike = goes.state; closed = (run_later known turns (one_form x.tree ns) v.state).0 (closed_turned x.form s n.closed); there = (run_later knows turns (one_form x.tree ms) u.state).0 (closed_turned x.form t n.there) };
          notes = goes.notes;
          noted = goes.noted;
          left = λ j. record { form = x.form; counts = counts j; left = l j; kept = k j };
          rest = (left_fits v turns x.tree x.kept b.1 b.0 (mentioned_kept mask turns v x.tree x.kept m) f, begun_fits v turns x.tree x.kept b.1 b.0 (mentioned_kept mask turns v x.tree x.kept m) f);
        })

  firsts_alike : (xs : List FormOrKept) (ns ms : List (Note FramedIdent)) (s t : ScopedState) → Now s t → map bare_note ms ≡ map bare_note ns → Each (NoteIn mask) ns → FirstsBegin known xs ns s → FirstsBegin knows xs ms t → Each (λ (x : FormOrKept). FormFits x.kept) xs → FirstsMention known xs ns s
      → FirstsAlike xs ns ms s t
  firsts_alike [] ns ms s t n d e b c f m = record { both = both_go [] [] s t refl refl (record { now = n; lists = refl; rests = tt }); mentions = tt }
  firsts_alike (x ∷ xs) ns ms s t n d e b c f m =
      let first = onwards_left (λ p z. FirstsMention known xs p.notes z) m.1 (onwards_left (λ p z. FirstsBegin known xs p.notes z) b.1 (onwards_right (λ p z. FirstsBegin knows xs p.notes z) c.1 (both x ns ms s t n d e b.0 c.0 f.0 m.0))) in
      record {
        both = both_then _ _ first (λ p q z z2 g.
            let k = g.1.1.1 in
            let l = k.left in
            both_then _ _ (firsts_alike xs p.notes q.notes z z2 k.now k.notes k.noted g.1.0 g.1.1.0 f.1 g.0).both (λ ys zs z3 z4 y. both_go _ _ z3 z4 refl refl (let a = y.lists in record { now = y.now; lists = (λ j. l j ∷ a j); rests = (k.rest, y.rests) })));
        mentions = (here x ns ms s t n d e b.0 c.0 f.0 m.0, right_onwards (λ q z. FirstsMention knows xs q.notes z) (λ z z2 p q g. let k = g.1.1.1 in (firsts_alike xs p.notes q.notes z z2 k.now k.notes k.noted g.1.0 g.1.1.0 f.1 g.0).mentions) first);
      }

module _ (mask : Mask) (turns : ℕ) (known knows : Known) (same : KnowsSame mask known knows) (xs : List FormOrKept) (s t : ScopedState) (a : Alike mask s t) (h : IsClosed s) (k : IsClosed t) (b : AllBegin (anew turns) known xs s) (c : AllBegin (anew turns) knows xs t) (m : AllMentioned mask (anew turns) turns known xs s) where
  abbrev fs : List ℕ
  fs = numbers_of xs

  unit_mentions : AllMentioned mask (anew turns) turns knows xs t
  unit_mentions =
      let x = firsts_alike mask turns known knows same fs xs [] [] s t (record { alike = a; closed = h; there = k }) refl tt b.0 c.0 m.0 m.1.0 in (
        m.0,
        (
          x.mentions,
          right_onwards (λ rs z. SecondsMention mask turns known knows same fs knows rs z) (λ z z2 ys zs g. let w = g.1.1.1 in
              seconds_there ys zs z z2 w g.1.0 g.1.1.0 g.0)
              (onwards_left (λ rs z. SecondsMention mask turns known knows same fs known rs z) m.1.1 (onwards_left (λ rs z. SecondsBegin mask turns known knows same fs known rs z) b.1 (onwards_right (λ rs z. SecondsBegin mask turns known knows same fs knows rs z) c.1 x.both))),
        ),
      )
    where
      seconds_there : (ys zs : List LeftOrKept) (z z2 : ScopedState) → Gives mask turns known knows same fs z z2 ys zs → SecondsBegin mask turns known knows same fs known ys z → SecondsBegin mask turns known knows same fs knows zs z2 → SecondsMention mask turns known knows same fs known ys z
          → SecondsMention mask turns known knows same fs knows zs z2
      seconds_there ys zs z z2 w b c m =
          subst (λ (l : List LeftOrKept). SecondsMention mask turns known knows same fs knows l z2) (sym w.lists)
          (seconds_mention mask turns known knows same fs ys z z2 w.now b (subst (λ (l : List LeftOrKept). SecondsBegin mask turns known knows same fs knows l z2) w.lists c) w.rests m)

-- ---- units of programs

pub units_mention : (mask : Mask) (all there : List Placed) (units others : List Prepared) (known knows : Known) (n m : ℕ) (p q : Prepared) (xs : List FormOrKept) →
    let g = scoped_work all units known n scoped_before in let h = scoped_work there others knows m scoped_before in let s = scoped_start_after all p g in let t = scoped_start_after there q h in
    is_ready all units g.results p ≡ true → is_ready there others h.results q ≡ true → map form_of xs ≡ forms_over (Written p.number) p.number 0 (forms_at_work p) → map form_of xs ≡ forms_over (Written q.number) q.number 0 (forms_at_work q) →
    Unchanged mask s t → KnowsSame mask known knows → AllMentioned mask (anew enough_turns) enough_turns known xs s → AllMentioned mask (anew enough_turns) enough_turns knows xs t
units_mention mask all there units others known knows n m p q xs ready ready2 forms forms2 same libraries k =
    let g = scoped_work all units known n scoped_before in let h = scoped_work there others knows m scoped_before in
    let s = scoped_start_after all p g in let t = scoped_start_after there q h in
    unit_mentions mask enough_turns known knows libraries xs s t (record { same = same; nodes = λ f. refl }) (programs_closed all units known n p) (programs_closed there others knows m q)
    (begins all units known g (between_at all units known n) (placed_at all units known n) p (new_unit all units known g p ready) xs forms)
    (begins there others knows h (between_at there others knows m) (placed_at there others knows m) q (new_unit there others knows h q ready2) xs forms2) k

-- ---- what mentions some units alone is kept

module _ (mask : Mask) (turns : ℕ) (known : Known) (fs : List ℕ) where
  onwards_map : {S X : Type 0} (P Q : X → S → Type 0) → ((x : X) (s : S) → P x s → Q x s) → (q : Option X × S) → Onwards P q → Onwards Q q
  onwards_map P Q f (None, s) h = tt
  onwards_map P Q f (Some x, s) h = f x s h

  abbrev One : Around → FormOrKept → Type 0
  One v x = IsMentioned mask turns v x.tree x.kept

  abbrev Two : Around → LeftOrKept → Type 0
  Two v r = IsRestMentioned mask turns v r.left r.kept

  firsts_kept : (xs : List FormOrKept) (ns : List (Note FramedIdent)) (s : ScopedState) → AtFirsts One (anew turns) known fs xs ns s → AtFirsts (IsKept turns) (anew turns) known fs xs ns s
  firsts_kept [] ns s h = tt
  firsts_kept (x ∷ xs) ns s h =
      let v = around_form known x.form ns s in
      (mentioned_kept mask turns v x.tree x.kept h.0, onwards_map (λ p t. AtFirsts One (anew turns) known fs xs p.notes t) (λ p t. AtFirsts (IsKept turns) (anew turns) known fs xs p.notes t) (λ p t k. firsts_kept xs p.notes t k) (unless_over (counted known) fs (set_aside v turns x.tree)) h.1)

  seconds_kept : (rs : List LeftOrKept) (s : ScopedState) → AtSeconds Two (anew turns) known fs rs s → AtSeconds (IsRestKept turns) (anew turns) known fs rs s
  seconds_kept [] s h = tt
  seconds_kept (r ∷ rs) s h =
      let v = around_form known r.form [] s in
      (mentioned_rest mask turns v r.left r.kept h.0, onwards_map (λ p t. AtSeconds Two (anew turns) known fs rs t) (λ p t. AtSeconds (IsRestKept turns) (anew turns) known fs rs t) (λ p t k. seconds_kept rs t k) (comes_to v turns fs r.left None) h.1)

pub units_kept : (mask : Mask) (turns : ℕ) (known : Known) (xs : List FormOrKept) (s : ScopedState) → AllMentioned mask (anew turns) turns known xs s → AllKept (anew turns) turns known xs s
units_kept mask turns known xs s h =
    let fs = numbers_of xs in (
      h.0,
      (
        firsts_kept mask turns known fs xs [] s h.1.0,
        onwards_map mask turns known fs (λ rs t. AtSeconds (Two mask turns known fs) (anew turns) known fs rs t) (λ rs t. AtSeconds (IsRestKept turns) (anew turns) known fs rs t) (λ rs t k. seconds_kept mask turns known fs rs t k)
            (firsts_by (anew turns) known fs xs [] s) h.1.1,
      ),
    )
