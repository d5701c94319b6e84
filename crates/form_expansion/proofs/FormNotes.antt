-- What a form asks while what it set aside is expanded, item by item: each call begins its notes again where the last one has ended, and all
-- come to the notes of the form's second part.
use Rattle.std.proofs.Common.{◌≡◌, ℕ, suc, List, [], ◌∷◌, drop, length, true, false, Result, Ok, Err, refl, sym, ap, ◌∙◌, subst}
use Rattle.scheme_model.specs.Ident.{Ident as Identifier}
use Rattle.scheme_model.specs.Meaning.{Meaning, Local, Global, Standard, Free}
use Rattle.scheme_model.specs.Cores.{Part, Parts, part}
use Rattle.scheme_model.specs.Steps.{Broken, done, ◌>>=◌}
use Rattle.scheme_model.specs.Order.{Item, Left, Note}
use Rattle.scheme_model.specs.Expression.{expand, item_part, parts}
use Rattle.scheme_model.specs.Program.{enough_turns}
use Rattle.scheme_model.specs.UnitExpansion.{max_depth}
use Rattle.scheme_model.specs.Requirements.{Known}
use Rattle.scheme_model.specs.Substitution.{Table}
use Rattle.scheme_model.specs.Questions.{bare_macro}
use Rattle.scheme_model.specs.RulesShape.{option_map}
use Rattle.scheme_model.specs.ScopedExpansion.{FramedIdent, ScopedState, macro_at}
use Rattle.syntax_tree.specs.Meant.{IsMeaning}
use Rattle.syntax_tree.specs.Names.{Names}
use Rattle.syntax_tree.specs.declared.trees.Work.{Work}
use Rattle.core_tree.specs.declared.traces.Trace.{Trace}
use Rattle.forgotten_locals.specs.Outside.{is_outside, macros_outside}
use Rattle.forgotten_locals.proofs.Outsides.{macro_outside}
use Rattle.form_notes.specs.Noted.{Noted, Since, beginning, is_local, is_own}
use Rattle.form_notes.specs.Standing.{HaveNotes}
use Rattle.form_notes.specs.declared.notes.Note as code_note
use Rattle.unit_scopes.specs.Editions.{EditionsTell}
use Rattle.unit_scopes.specs.Searched.{searched}
use Rattle.unit_scopes.specs.Stepped.{turned}
use Rattle.unit_scopes.specs.Units.{uses_met, expanded}
use Rattle.unit_scopes.specs.declared.macros.Macros.{Macros}
use Rattle.unit_scopes.specs.declared.scope.UnitScope.{UnitScope}
use Rattle.noted_steps.specs.Noting.{Noting, state_of, going, is_nothing, noting}
use Rattle.noted_steps.specs.Standing.{EditionsStand}
use Rattle.noted_steps.proofs.PlainSides as plain
use Rattle.note_laws.specs.SameParts.{SamePart}
use Rattle.note_laws.proofs.ItemSides.{uses_same, item_same}
use Rattle.expander.specs.UnitNotes.{CanNote, Editions, HasNoted, expand_noting, met_noting, part_begun}
use Rattle.expander.proofs.PartLaws.{uses_plain, uses_exact}
use Rattle.form_expansion.specs.Forms.{NotedInside, left_noting}
use Rattle.form_expansion.proofs.AnewSides.{flagged, item_flag}
use Rattle.form_expansion.proofs.FormAtWork.{same_turned}

-- ---- the items that are still to come

abbrev pub rest_noting : Known → List (Item Identifier) → Noting → Result Parts Broken × Noting
rest_noting known is s = parts (item_part (expand (noting known) enough_turns) (noting known) max_depth []) is s

ends_alike : (p : Part) (r : Result Parts Broken × Noting) → (r >>= λ ps. done (part p ps)).1 ≡ r.1
ends_alike p (Ok ps, t) = refl
ends_alike p (Err e, t) = refl

goes_alike : (is : List (Item Identifier)) (f : Item Identifier → Noting → Result Part Broken × Noting) (q : Result Part Broken × Noting) (p : Part) → q.0 ≡ Ok p → (q >>= λ p. λ t. parts f is t >>= λ ps. done (part p ps)).1 ≡ (parts f is q.1).1
goes_alike is f (Ok x, t) p h = ends_alike x (parts f is t)
goes_alike is f (Err e, t) p h = absurd (subst (λ (r : Result Part Broken). IsErr r) h tt)
  where
    IsErr : Result Part Broken → Type 0
    IsErr (Ok x) = ⊥
    IsErr (Err e) = Unit {0}

stops_alike : (is : List (Item Identifier)) (f : Item Identifier → Noting → Result Part Broken × Noting) (q : Result Part Broken × Noting) (e : Broken) → q.0 ≡ Err e → (q >>= λ p. λ t. parts f is t >>= λ ps. done (part p ps)).1 ≡ q.1
stops_alike is f (Err x, t) e h = refl
stops_alike is f (Ok x, t) e h = absurd (subst (λ (r : Result Part Broken). IsOk r) h tt)
  where
    IsOk : Result Part Broken → Type 0
    IsOk (Ok x) = Unit {0}
    IsOk (Err e) = ⊥

-- ---- editions, where the form has defined nothing in its unit

not_own : (r : Since) (m : Meaning) → r.own ≡ [] → is_local m ≡ false → is_own r m ≡ false
not_own r (Local v) none other = absurd cc
not_own r (Global u i) none other = ap (λ (t : Table). is_own (record r { own = t }) (Global u i)) none
not_own r (Standard x) none other = refl
not_own r (Free x) none other = refl

editions_tell : (names : Names) (ms : Macros) (s : Noting) → s.since.own ≡ [] → EditionsStand names ms s → EditionsTell names ms (state_of s) s.since.editions
editions_tell names ms s none h = record { none = h.none; tells = λ form c m is other. h.tells form c m is (not_own s.since m none other) }

is_outside_of : (m : Meaning) → is_local m ≡ false → is_outside m ≡ true
is_outside_of (Local v) other = absurd cc
is_outside_of (Global u i) other = refl
is_outside_of (Standard x) other = refl
is_outside_of (Free x) other = refl

-- they tell the same of the state before, where macros that aren't local stayed
pub tell_before : (names : Names) (ms : Macros) (t s : ScopedState) (editions : Editions) → t.unit ≡ s.unit → macros_outside t.macros ≡ macros_outside s.macros → EditionsTell names ms t editions → EditionsTell names ms s editions
tell_before names ms t s editions own same h = record {
  none = h.none;
  tells = λ form c m is other.
      let away = is_outside_of m other in
      h.tells form c m (subst (λ (u : ℕ). IsMeaning names u form c m) (sym own) is) other
      ∙ ap (option_map bare_macro) (sym (macro_outside m away t.macros) ∙ ap (λ ks. macro_at ks m) same ∙ macro_outside m away s.macros);
}

pub tell_turned : (names : Names) (ms : Macros) (s : ScopedState) (n : ℕ) (editions : Editions) → EditionsTell names ms s editions → EditionsTell names ms (turned n s) editions
tell_turned names ms s n editions h = record { none = h.none; tells = λ form c m is other. h.tells form c m is other }

-- ---- one item after another

-- from where the part began so many items are expanded, to this state: the notes stand, and the rest is to come
pub record NotesSo (work : Work) (macros : Macros) (known : Known) (l : Left Identifier) (k : ℕ) (t : ScopedState) (trace : Trace) (s : Noting) : Type 0 where
  pub now : Noting
  pub goes : left_noting known l s ≡ (rest_noting known (drop k l.items) now).1
  pub state : state_of now ≡ t
  pub exact : now.exact ≡ true
  pub part : SamePart s now
  pub notes : HaveNotes work.symbols now.since trace.notes.notes now.noted
  pub begun : trace.notes.begun ≡ now.since.uses
  pub editions : EditionsStand work.symbols macros now

-- a form's second part begins
abbrev pub begins : (form : ℕ) → List (Note FramedIdent) → Editions → List Noted → ScopedState → Noting
begins form notes editions ms s = part_begun (s.uses form) notes editions ms (turned form s)

module _ (known : Known) (form : ℕ) (l : Left Identifier) (notes : List (Note FramedIdent)) (editions : Editions) (ms : List Noted) (s : ScopedState) where
  abbrev first : Noting
  first = begins form notes editions ms s

  -- its uses are met
  pub uses_so : (work : Work) (macros : Macros) (next : Trace) → HasNoted work macros next (met_noting known l.uses first) → NotesSo work macros known l 0 (uses_met known form l.uses s) next first
  uses_so work macros next h = record {
    now = met_noting known l.uses first;
    goes = refl;
    state = uses_plain known [] l.uses first;
    exact = uses_exact known [] l.uses first;
    part = uses_same known l.uses first;
    notes = h.notes;
    begun = h.begun;
    editions = h.editions;
  }

  module _ (work : Work) (macros : Macros) (k : ℕ) (t : ScopedState) (trace : Trace) (h : NotesSo work macros known l k t trace first) where
    -- nothing is the form's own
    none_own : h.now.since.own ≡ []
    none_own = ap (λ (r : Since). r.own) h.part.0

    pub told_now : EditionsTell work.symbols macros t editions
    told_now =
        subst (λ (x : ScopedState). EditionsTell work.symbols macros x editions) h.state
        (subst (λ (r : Since). EditionsTell work.symbols macros (state_of h.now) r.editions) h.part.0 (editions_tell work.symbols macros h.now none_own h.editions))

    -- all is expanded
    pub notes_end : drop k l.items ≡ [] → NotedInside work macros trace (left_noting known l first)
    notes_end all =
        subst (λ (x : Noting). NotedInside work macros trace x) (sym (h.goes ∙ ap (λ (is : List (Item Identifier)). (rest_noting known is h.now).1) all))
        (record { notes = h.notes; editions = editions_tell work.symbols macros h.now none_own h.editions })

    module _ (own : t.unit ≡ s.unit) (at_work : t.form ≡ form) where
      since_is : h.now.since ≡ beginning t.unit form trace.notes.begun editions
      since_is =
          let uses : trace.notes.begun ≡ s.uses form = h.begun ∙ ap (λ (r : Since). r.uses) h.part.0 in
          h.part.0 ∙ (λ j. beginning ((sym own) j) form ((sym uses) j) editions)

      -- the next item may be noted
      pub can_note : (u : UnitScope) → u.macros ≡ macros → CanNote work u trace trace.notes.begun editions h.now.noted (turned form t)
      can_note u same = record {
        tells = subst (λ (x : Macros). EditionsTell work.symbols x (turned form t) editions) (sym same) (tell_turned work.symbols macros t form editions told_now);
        notes = subst (λ (r : Since). HaveNotes work.symbols r trace.notes.notes h.now.noted) since_is h.notes;
      }

      -- where it begins
      abbrev pub again : Noting
      again = part_begun trace.notes.begun notes editions h.now.noted (turned form t)

      again_is : again ≡ flagged (is_nothing h.now.noted) h.now
      again_is =
          let e = sym h.exact in let b : length notes ≡ h.now.before = sym h.part.1 in let r = sym since_is in let x : turned form t ≡ state_of h.now = same_turned t form at_work ∙ sym h.state in
          λ j. going (e j) (b j) (r j) h.now.noted (x j)

      module _ (i : Item Identifier) (there : drop k l.items ≡ i ∷ drop (suc k) l.items) where
        abbrev one : Result Part Broken × Noting
        one = expand_noting known i h.now

        -- what comes of it without notes
        one_plain : expanded known form i t ≡ (one.0, state_of one.1)
        one_plain =
            ap (λ (x : ScopedState). item_part (expand (searched known) enough_turns) (searched known) max_depth [] i x) (same_turned t form at_work ∙ sym h.state) ∙ plain.item_same known enough_turns i h.now

        one_is : expand_noting known i again ≡ (one.0, flagged (is_nothing h.now.noted) one.1)
        one_is = ap (expand_noting known i) again_is ∙ item_flag known (is_nothing h.now.noted) enough_turns i h.now

        module _ (new : Work) (after : Macros) (next : Trace) (noted : HasNoted new after next (expand_noting known i again).1) where
          noted_one : HasNoted new after next (flagged (is_nothing h.now.noted) one.1)
          noted_one = subst (λ (q : Result Part Broken × Noting). HasNoted new after next q.1) one_is noted

          same_part : SamePart first one.1
          same_part = let x = item_same known enough_turns i h.now in (x.0 ∙ h.part.0, x.1 ∙ h.part.1)

          stand_one : EditionsStand new.symbols after one.1
          stand_one = let e = noted_one.editions in record { none = e.none; tells = λ form c m is other. e.tells form c m is other }

          -- editions tell the same
          pub told_then : EditionsTell new.symbols after (expanded known form i t).1 editions
          told_then =
              subst (λ (x : ScopedState). EditionsTell new.symbols after x editions) (sym (ap (λ (q : Result Part Broken × ScopedState). q.1) one_plain))
              (subst (λ (r : Since). EditionsTell new.symbols after (state_of one.1) r.editions) same_part.0 (editions_tell new.symbols after one.1 (ap (λ (r : Since). r.own) same_part.0) stand_one))

          -- it is expanded
          pub item_so : (p : Part) → (expanded known form i t).0 ≡ Ok p → NotesSo new after known l (suc k) (expanded known form i t).1 next first
          item_so p ok = record {
            now = one.1;
            goes =
                h.goes ∙ ap (λ (is : List (Item Identifier)). (rest_noting known is h.now).1) there
                ∙ goes_alike (drop (suc k) l.items) (item_part (expand (noting known) enough_turns) (noting known) max_depth []) one p (sym (ap (λ (q : Result Part Broken × ScopedState). q.0) one_plain) ∙ ok);
            state = sym (ap (λ (q : Result Part Broken × ScopedState). q.1) one_plain);
            exact = plain.item_exact known enough_turns i h.now ∙ h.exact;
            part = same_part;
            notes = noted_one.notes;
            begun = noted_one.begun;
            editions = stand_one;
          }

          -- the form is broken there
          pub item_breaks : (e : Broken) → (expanded known form i t).0 ≡ Err e → (last : Trace) → last.notes.notes ≡ next.notes.notes → NotedInside new after last (left_noting known l first)
          item_breaks e err last told =
              let is : left_noting known l first ≡ one.1 =
              h.goes ∙ ap (λ (is : List (Item Identifier)). (rest_noting known is h.now).1) there
              ∙ stops_alike (drop (suc k) l.items) (item_part (expand (noting known) enough_turns) (noting known) max_depth []) one e (sym (ap (λ (q : Result Part Broken × ScopedState). q.0) one_plain) ∙ err) in
              subst (λ (x : Noting). NotedInside new after last x) (sym is)
              (record {
                notes = subst (λ (ys : List code_note.Note). HaveNotes new.symbols one.1.since ys one.1.noted) (sym told) noted_one.notes;
                editions = editions_tell new.symbols after one.1 (ap (λ (r : Since). r.own) same_part.0) stand_one;
              })
