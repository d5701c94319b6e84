-- A note of a definition, where a form is declared again: what it demands, and what is known behind it.
use Rattle.std.proofs.Common.{◌≡◌, ℕ, ◌+◌, ◌≤◌, List, [], ◌∷◌, ◌++◌, map, length, slice_get, Bool, true, false, Option, Some, None, Ok, Contains, refl, sym, ap, ◌∙◌, subst, arith}
use Rattle.std.specs.Prelude.{if◌then◌else◌, Vec, reverse}
use Rattle.std.specs.declared.alloc.Global.{Global}
use Rattle.std.proofs.lemmas.List.{length-map, length-reverse}
use Rattle.std.proofs.lemmas.Option.{same_Some}
use Rattle.scheme_model.specs.Ident.{Ident}
use Rattle.scheme_model.specs.RulesShape.{Rules}
use Rattle.scheme_model.specs.Questions.{Moment, Around, Outcome, Stands, Question, LooksUp, UsesRules, Compares, IsAssigned, Requires, Defines, bare}
use Rattle.scheme_model.specs.FormsAlike.{bare_note}
use Rattle.syntax_tree.specs.Names.{Names}
use Rattle.syntax_tree.specs.declared.trees.Work.{Work}
use Rattle.form_notes.specs.Noted.{Noted, Since}
use Rattle.form_notes.specs.Standing.{IsNote, outcome_as, made_by}
use Rattle.form_notes.specs.declared.notes.Definition.{Definition}
use Rattle.form_notes.specs.declared.notes.Note as code_note
use Rattle.form_notes.specs.declared.notes.Outcome as code_outcome
use Rattle.form_notes.specs.declared.notes.Outcome.TheVariants as outcomes
use Rattle.unit_scopes.specs.Defining.{outcome_here}
use Rattle.unit_scopes.specs.Kept.{NotesFor}
use Rattle.unit_scopes.specs.declared.asked.Asked.{Asked}
use Rattle.unit_scopes.specs.declared.scope.UnitScope.{UnitScope}
use Rattle.note_laws.specs.Told.{bare_question, bare_noted, told, since_of}
use Rattle.declared_parts.specs.Again.{own_notes, noted_of, CanDeclare}
use Rattle.declared_parts.specs.Going.{Tells, TellsSame, TellsOther, note_of, notes_first, settled, OwnSoFar, CanSetOwn, CanEnd, GoesOn, HasGoneBy, HasMacro, HasMacros, IsNext, KeptFrom}
use Rattle.declared_parts.specs.Parts.{OwnNoteFor, IsKeptMacro, keyword_if, keyword_made, rules_defined}
use Rattle.declared_parts.specs.Undone.{AreDefined}
use Rattle.declared_parts.specs.declared.again.Going.{Going}
use Rattle.declared_parts.specs.declared.parts.DeclaredPart.{DeclaredPart}
use Rattle.declared_parts.specs.declared.parts.KeptMacro.{KeptMacro}
use Rattle.declared_parts.specs.declared.undoing.Made.{Made}
use Rattle.declared_parts.proofs.EachLaws.{contained_map, map_contained}
use Rattle.declared_parts.proofs.GoNext.{kept_past, kept_next, of, ending, ends_same, same_ends, is_next}
use Rattle.declared_parts.proofs.OwnLaws.{matched_length, first_earlier, earlier_few}
use Rattle.declared_parts.proofs.SameEnds.{IsOf, same_code}

rules_bare : (q : Question) → rules_defined (bare_question q) ≡ rules_defined q
rules_bare (LooksUp i) = refl
rules_bare (UsesRules m) = refl
rules_bare (Compares l i) = refl
rules_bare (IsAssigned i) = refl
rules_bare (Requires l) = refl
rules_bare (Defines fs x r ns) = refl

rules_found : (names : Names) (d : Definition) (before : Around) (q : Moment × Question) (o : Outcome) (f : IsOf names d before q o) (m : Noted) (rules : Rules Ident) → told before q ≡ bare_noted m → rules_defined m.question ≡ Some rules → f.rules ≡ Some rules
rules_found names d before q o f m rules same defines =
    sym (ap rules_defined f.question) ∙ (sym (rules_bare q.1) ∙ (ap (λ (n : Noted). rules_defined n.question) same ∙ (rules_bare m.question ∙ defines)))

module _ (work : Work) (old : UnitScope) (number : ℕ) (part : DeclaredPart) (can : CanDeclare work old number part) where
  abbrev r : Since
  r = since_of can.again.before can.editions

  -- a note tells the question of what it stands for
  definition_told : (d : Definition) (o : code_outcome.Outcome) (behind : ℕ) (m : Noted) → IsNote work.symbols r (note_of d o behind) m → IsNote work.symbols r (note_of d o behind) (bare_noted m)
  definition_told d o behind m h =
      let q = h.1 in
      let count = length-map q.3 bare_note in
      (h.0, (bare q.0, q.1, q.2, map bare_note q.3, ap bare_question q.4, q.5, record { name = q.6.name; place = q.6.place; keyword = q.6.keyword; asked = q.6.asked ∙ sym count }))

  asked_of : (m : Noted) → Contains can.kept.noted m → (q : Moment × Question) × Contains (noted_of can.again) q × (told can.again.before q ≡ bare_noted m)
  asked_of m there = map_contained (told can.again.before) (noted_of can.again) (bare_noted m) (subst (λ (l : List Noted). Contains l (bare_noted m)) can.kept.told (contained_map bare_noted can.kept.noted m there))

  module _ (u : UnitScope) (g : Going) (made : ℕ) (h : GoesOn work old number part can u g made) (d : Definition) (o : code_outcome.Outcome) where
    abbrev x : code_note.Note
    x = note_of d o made

    abbrev Told : Moment × Question → Type 0
    Told q = Tells work old number part can x q

    abbrev Of : (q : Moment × Question) → Told q → IsOf work.symbols d can.again.before q (outcome_as o)
    Of q t = of work old number part can u g made h d o q t

    -- ---- what it demands

    early_enough : (q : Moment × Question) (t : Told q) → d.asked ≤ length (own_notes can.again)
    early_enough q t =
        let f = Of q t in
        let few = earlier_few f.notes (own_notes can.again) (ending work old number part can u g made h d o q t).notes in
        let asked = f.is.asked in
        omega (arith, few, asked)

    pub can_set : (q : Moment × Question) → Told q → CanSetOwn work u part can.layout (own_notes can.again) d.asked g
    can_set q t = record { root = h.stands.root; kept = can.kept.part.asked; few = early_enough q t; now = h.own }

    -- all of them are kept
    pub asked_there : (q : Moment × Question) → Told q → d.asked ≤ length part.asked
    asked_there q t =
        let few = early_enough q t in
        let long = matched_length (OwnNoteFor work.symbols) part.asked (reverse (own_notes can.again)) can.kept.part.asked in
        let turned = length-reverse (own_notes can.again) in
        omega (arith, few, long, turned)

    pub own_by_then : (a : Asked) → OwnSoFar work can.layout (own_notes can.again) a d.asked → (q : Moment × Question) (t : Told q) → NotesFor work can.layout a (Of q t).notes
    own_by_then a own q t =
        let f = Of q t in
        let same = (λ j. notes_first (f.is.asked j) (own_notes can.again)) ∙ first_earlier f.notes (own_notes can.again) (ending work old number part can u g made h d o q t).notes in
        subst (NotesFor work can.layout a) same own.notes

    notes_before : NotesFor work can.layout u.asked can.again.now.notes
    notes_before = subst (λ (a : Asked). NotesFor work can.layout a can.again.now.notes) (sym h.rest.asked) can.stands.notes

    pub can_end : (a : Asked) → OwnSoFar work can.layout (own_notes can.again) a d.asked → (q : Moment × Question) (t : Told q) → CanEnd work u d a can.layout (settled can.again.now h.moment) (Of q t).name (Of q t).notes can.again.now.notes
    can_end a own q t = let f = Of q t in record { stands = h.stands; is = (f.is.name, f.is.place); own = own_by_then a own q t; notes = notes_before }

    -- it goes on with other notes of its own
    abbrev pub with_own : (g2 : Going) → g2.made ≡ g.made → g2.macros ≡ g.macros → OwnSoFar work can.layout (own_notes can.again) g2.own g2.asked → GoesOn work old number part can u g2 made
    with_own g2 same macros own = record {
      moment = h.moment;
      before = h.before;
      count = h.count;
      stands = h.stands;
      closed = h.closed;
      tells = h.tells;
      rest = h.rest;
      flat = h.flat;
      roots = h.roots;
      scopes = h.scopes;
      own = own;
      back = subst (λ (m : Vec Made Global). AreDefined old u (reverse m.items)) (sym same) h.back;
      given = subst (HasMacros u part.macros) (sym macros) h.given;
    }

    -- ---- how it ends

    module _ (ends : code_outcome.Outcome) (ended : (q : Moment × Question) (t : Told q) → let f = Of q t in outcome_as ends ≡ outcome_here None f.name f.rules [] (f.notes ++ can.again.now.notes) (settled can.again.now h.moment)) where
      pub tells_same : ends ≡ o → TellsSame work old number part can x
      tells_same e q t = ends_same work old number part can u g made h d o q t (sym (ended q t) ∙ ap outcome_as e)

      pub tells_other : (ends ≡ o → ⊥) → TellsOther work old number part can x
      tells_other apart q t same = apart (same_code ends o (ended q t ∙ same_ends work old number part can u g made h d o q t same))

  -- ---- its macro

  module _ (u : UnitScope) (g : Going) (made : ℕ) (h : GoesOn work old number part can u g made) (d : Definition) (left : List code_note.Note) where
    abbrev stands_so : code_note.Note
    stands_so = note_of d outcomes.Stands made

    abbrev StandsSo : Moment × Question → Type 0
    StandsSo q = Tells work old number part can stands_so q

    abbrev rules_of : (q : Moment × Question) → StandsSo q → Option (Rules Ident)
    rules_of q t = (of work old number part can u g made h d outcomes.Stands q t).rules

    -- a question that it tells, and of which the next macro is, where a keyword is defined
    pub record HasNext (n : ℕ) : Type 0 where
      pub question : Moment × Question
      pub tells : StandsSo question
      pub macro : HasMacro work can.editions (slice_get part.macros n) d.keyword (rules_of question tells)
      pub named : (k : KeptMacro) → slice_get part.macros n ≡ Some k → d.keyword ≡ true → k.ident ≡ d.ident

    keyword_is : (b : Bool) → d.keyword ≡ b → keyword_made stands_so.question ≡ (if b then Some d.ident else None)
    keyword_is b e = ap (λ (k : Bool). if k then Some d.ident else None) e

    found_next : (n : ℕ) (k : KeptMacro) → slice_get part.macros n ≡ Some k → IsKeptMacro work r can.kept.noted k stands_so → d.keyword ≡ true → HasNext n
    found_next n k at is keyword =
        let q = asked_of is.noted is.there in
        let t : StandsSo q.0 = (q.1, subst (IsNote work.symbols r stands_so) (sym q.2) (definition_told d outcomes.Stands made is.noted is.is)) in
        let f = of work old number part can u g made h d outcomes.Stands q.0 t in
        let same : f.rules ≡ Some is.rules = rules_found work.symbols d can.again.before q.0 Stands f is.noted is.rules q.2 is.defines in
        let has : HasMacro work can.editions (Some k) true (Some is.rules) = (is.checked, is.stands, is.leaves, is.edition) in
        record {
          question = q.0;
          tells = t;
          macro =
              subst (λ (o : Option KeptMacro). HasMacro work can.editions o d.keyword f.rules) (sym at)
              (subst (λ (b : Bool). HasMacro work can.editions (Some k) b f.rules) (sym keyword)
              (subst (λ (p : Option (Rules Ident)). HasMacro work can.editions (Some k) true p) (sym same) has));
          named = λ j there also. ap (λ (i : KeptMacro). i.ident) (same_Some j k (sym there ∙ at)) ∙ same_Some k.ident d.ident (sym is.keyword ∙ keyword_is true keyword);
        }

    pub next_of : (q : Moment × Question) → StandsSo q → (n : ℕ) → KeptFrom work old number part can n (stands_so ∷ left) → HasNext n
    next_of q t n kept = by d.keyword refl
      where
        not_both : (b : Bool) → b ≡ true → b ≡ false → ⊥
        not_both b on off = cc

        by : (b : Bool) → d.keyword ≡ b → HasNext n
        by true e = let k = kept_next work old number part can stands_so left n d.ident (keyword_is true e) kept in found_next n k.0 k.1 k.2 e
        by false e = record { question = q; tells = t; macro = subst (λ (b : Bool). HasMacro work can.editions (slice_get part.macros n) b (rules_of q t)) (sym e) tt; named = λ k there keyword. absurd (not_both d.keyword keyword e) }

    -- the macros that are left then
    pub left_then : (n m : ℕ) → m ≡ (if d.keyword then n + 1 else n) → KeptFrom work old number part can n (stands_so ∷ left) → KeptFrom work old number part can m left
    left_then n m e kept = by d.keyword refl
      where
        by : (b : Bool) → d.keyword ≡ b → KeptFrom work old number part can m left
        by true is = subst (λ (k : ℕ). KeptFrom work old number part can k left) (sym (e ∙ ap (λ (b : Bool). if b then n + 1 else n) is)) (kept_next work old number part can stands_so left n d.ident (keyword_is true is) kept).3
        by false is = subst (λ (k : ℕ). KeptFrom work old number part can k left) (sym (e ∙ ap (λ (b : Bool). if b then n + 1 else n) is)) (kept_past work old number part can stands_so left n (keyword_is false is) kept)

  -- ---- behind it

  module _ (u : UnitScope) (g : Going) (made : ℕ) (h : GoesOn work old number part can u g made) (d : Definition) (left : List code_note.Note) (ends : code_outcome.Outcome)
      (ended : (p : code_outcome.Outcome) (q : Moment × Question) (t : Tells work old number part can (note_of d p made) q) →
      let f = of work old number part can u g made h d p q t in outcome_as ends ≡ outcome_here None f.name f.rules [] (f.notes ++ can.again.now.notes) (settled can.again.now h.moment)) where
    -- it is the next one
    pub next_is : (o : code_outcome.Outcome) → o ≡ outcomes.Stands → ends ≡ o → (q : Moment × Question) → Tells work old number part can (note_of d o made) q → KeptFrom work old number part can g.macros (note_of d o made ∷ left) →
        IsNext work can.again can.editions h.moment d (slice_get part.macros g.macros)
    next_is o is e q t kept =
        let then_ = subst (λ (p : code_outcome.Outcome). Tells work old number part can (note_of d p made) q) is t in
        let left_so = subst (λ (p : code_outcome.Outcome). KeptFrom work old number part can g.macros (note_of d p made ∷ left)) is kept in
        let n = next_of u g made h d left q then_ g.macros left_so in
        is_next work old number part can u g made h d n.question n.tells (sym (ended outcomes.Stands n.question n.tells) ∙ ap outcome_as (e ∙ is)) n.macro n.named

    pub stands_gone : (o : code_outcome.Outcome) → o ≡ outcomes.Stands → ends ≡ o → (v : UnitScope) (g2 : Going) → GoesOn work old number part can v g2 (made + 1) → g2.macros ≡ (if d.keyword then g.macros + 1 else g.macros) →
        KeptFrom work old number part can g.macros (note_of d o made ∷ left) → HasGoneBy work old number part can (note_of d o made) left made v g2 (Ok true)
    stands_gone o is e v g2 goes macros kept =
        let left_so = subst (λ (p : code_outcome.Outcome). KeptFrom work old number part can g.macros (note_of d p made ∷ left)) is kept in (
          tells_same u g made h d o ends (ended o) e,
          subst (λ (p : code_outcome.Outcome). GoesOn work old number part can v g2 (made + made_by p)) (sym is) goes,
          left_then u g made h d left g.macros g2.macros macros left_so,
        )

    no_keyword : (o : code_outcome.Outcome) → made_by o ≡ 0 → keyword_if d o ≡ None
    no_keyword outcomes.Stands none = absurd cc
    no_keyword outcomes.Redefines none = refl
    no_keyword outcomes.StoodBefore none = refl

    pub fails_gone : (o : code_outcome.Outcome) → made_by o ≡ 0 → ends ≡ o → (g2 : Going) → GoesOn work old number part can u g2 made → g2.macros ≡ g.macros →
        KeptFrom work old number part can g.macros (note_of d o made ∷ left) → HasGoneBy work old number part can (note_of d o made) left made u g2 (Ok true)
    fails_gone o none e g2 goes macros kept =
        let count : made ≡ made + made_by o = omega (arith, none) in (
          tells_same u g made h d o ends (ended o) e,
          subst (GoesOn work old number part can u g2) count goes,
          subst (λ (n : ℕ). KeptFrom work old number part can n left) (sym macros) (kept_past work old number part can (note_of d o made) left g.macros (no_keyword o none) kept),
        )

    pub other_gone : (o : code_outcome.Outcome) → (ends ≡ o → ⊥) → (g2 : Going) → GoesOn work old number part can u g2 made → HasGoneBy work old number part can (note_of d o made) left made u g2 (Ok false)
    other_gone o apart g2 goes = (tells_other u g made h d o ends (ended o) apart, goes)
