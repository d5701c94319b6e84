-- A form's notes alone change: its scopes stand as they did.
use Rattle.std.proofs.Common.{◌≡◌, ℕ, zero, suc, ◌+◌, ◌<◌, ◌≤◌, List, [], ◌∷◌, ◌++◌, length, drop, get_or, Bool, true, Option, Some, None, refl, sym, ap, ◌∙◌, subst, arith, Bor}
use Rattle.std.specs.Option.{option_copied}
use Rattle.std.specs.Prelude.{is_some as is_there}
use Rattle.scheme_model.specs.Ident.{Ident as Identifier}
use Rattle.scheme_model.specs.Order.{Transformer, Headed, is_some}
use Rattle.scheme_model.specs.Requirements.{Known}
use Rattle.scheme_model.specs.ScopedExpansion.{Frames, ScopedState, macro_at}
use Rattle.syntax_tree.specs.Meant.{IsMeaning}
use Rattle.syntax_tree.specs.declared.meaning.Meaning as code_meaning
use Rattle.core_tree.specs.Names.{AllMatch}
use Rattle.syntax_tree.specs.declared.trees.Work.{Work}
use Rattle.form_notes.specs.Noted.{Noted, looked_up}
use Rattle.form_notes.specs.Standing.{NotingStands, SameStart}
use Rattle.form_notes.specs.declared.noting.Noting as code_noting
use Rattle.unit_scopes.specs.Outcomes.{CanLook}
use Rattle.unit_scopes.specs.State.{IsMacroIfAny}
use Rattle.unit_scopes.specs.State as plain
use Rattle.unit_scopes.specs.Used.{CanUse}
use Rattle.unit_scopes.specs.Defining.{CanGo}
use Rattle.unit_scopes.specs.Units.{CanSet}
use Rattle.unit_scopes.specs.declared.asked.Asked.{Asked}
use Rattle.form_parts.specs.declared.items.Spot as code_spot
use Rattle.unit_scopes.specs.declared.uses.Use as code_use
use Rattle.noted_steps.specs.Kept as noted
use Rattle.unit_scopes.specs.declared.macros.Macro.{Macro}
use Rattle.unit_scopes.specs.declared.scope.UnitScope.{UnitScope}
use Rattle.noted_steps.specs.Noting.{Noting, state_of, means_here, look_up, noting}
use Rattle.noted_steps.specs.Standing.{Stands, StartsAt, with_notes}

-- what stands without notes
pub plainly : (work : Work) (u : UnitScope) (ls : List Frames) (s : Noting) → Stands work u ls s → plain.Stands work u ls (state_of s)
plainly work u ls s e = record {
  unit = e.unit;
  program = e.program;
  env = e.env;
  macros = e.macros;
  root = e.root;
  own = e.own;
  begun = e.begun;
  form = e.form;
  defined = e.defined;
  known = e.known;
  count = e.count;
}

-- the part that is at work stays
pub starts_on : (x y : code_noting.Noting) (before : ℕ) (anew : Bool) → SameStart x y → StartsAt x before anew → StartsAt y before anew
starts_on x y before anew same h = record { before = same.before ∙ h.before; first = λ none. same.first ∙ h.first none }

-- with other notes
pub notes_stand : (work : Work) (u : UnitScope) (ls : List Frames) (s : Noting) (x : code_noting.Noting) (ms : List Noted) → SameStart u.form.trace.notes x → (s.exact ≡ true → NotingStands work.symbols x s.since ms) → Stands work u ls s →
    Stands work (with_notes u x) ls (record s { noted = ms })
notes_stand work u ls s x ms same h e =
    let f = e.form in
    record {
      unit = e.unit;
      program = e.program;
      env = e.env;
      macros = e.macros;
      root = e.root;
      own = e.own;
      begun = e.begun;
      form = record {
        number = f.number;
        locals = f.locals;
        uses = f.uses;
        nodes = f.nodes;
        few_uses = f.few_uses;
        few_nodes = f.few_nodes;
        few_locals = f.few_locals;
        definitions = f.definitions;
        keywords = f.keywords;
        met = f.met;
      };
      defined = e.defined;
      known = e.known;
      count = e.count;
      made = e.made;
      since_unit = e.since_unit;
      since_form = e.since_form;
      editions = λ exact. let d = e.editions exact in record { none = d.none; tells = d.tells };
      notes = h;
      start = λ exact. starts_on u.form.trace.notes x s.before s.anew same (e.start exact);
    }

-- with other notes of the state alone
pub notes_again : (work : Work) (u : UnitScope) (ls : List Frames) (s : Noting) (ms : List Noted) → (s.exact ≡ true → NotingStands work.symbols u.form.trace.notes s.since ms) → Stands work u ls s → Stands work u ls (record s { noted = ms })
notes_again work u ls s ms h e = notes_stand work u ls s u.form.trace.notes ms (record { before = refl; first = refl }) h e

-- where one was lost, whatever was asked
pub lost_stands : (work : Work) (u : UnitScope) (ls : List Frames) (s : Noting) (ms : List Noted) → Stands work u ls s → Stands work (with_notes u (record u.form.trace.notes { lost = true })) ls (record s { noted = ms })
lost_stands work u ls s ms e =
    notes_stand work u ls s (record u.form.trace.notes { lost = true }) ms (record { before = refl; first = refl })
    (λ exact. let h = (e.notes exact).since in record { since = record { unit = h.unit; form = h.form; uses = h.uses }; stands = λ kept. absurd cc })
    e

-- where notes alone changed an identifier can be looked up as before
pub plain_notes : (work : Work) (u : UnitScope) (ls : List Frames) (s : ScopedState) (x : code_noting.Noting) → plain.Stands work u ls s → plain.Stands work (with_notes u x) ls s
plain_notes work u ls s x e =
    let f = e.form in
    record {
      unit = e.unit;
      program = e.program;
      env = e.env;
      macros = e.macros;
      root = e.root;
      own = e.own;
      begun = e.begun;
      form = record {
        number = f.number;
        locals = f.locals;
        uses = f.uses;
        nodes = f.nodes;
        few_uses = f.few_uses;
        few_nodes = f.few_nodes;
        few_locals = f.few_locals;
        definitions = f.definitions;
        keywords = f.keywords;
        met = f.met;
      };
      defined = e.defined;
      known = e.known;
      count = e.count;
    }

pub plain_noted : (work : Work) (u v : UnitScope) (ls : List Frames) (s : ScopedState) → v ≡ with_notes u v.form.trace.notes → plain.Stands work u ls s → plain.Stands work v ls s
plain_noted work u v ls s same e = subst (λ (x : UnitScope). plain.Stands work x ls s) (sym same) (plain_notes work u ls s v.form.trace.notes e)

pub looks_on : (work : Work) (u v : UnitScope) (scope : ℕ) → v ≡ with_notes u v.form.trace.notes → CanLook work u scope → CanLook work v scope
looks_on work u v scope same h =
    subst (λ (x : UnitScope). CanLook work x scope) (sym same)
    (record { layout = h.layout; state = h.state; frames = h.frames; stands = plain_notes work u h.layout h.state v.form.trace.notes h.stands; at = h.at })

-- what can be looked up with notes can be without
pub plain_look : (work : Work) (u : UnitScope) (scope : ℕ) → noted.CanLook work u scope → CanLook work u scope
plain_look work u scope h = record { layout = h.layout; state = state_of h.state; frames = h.frames; stands = plainly work u h.layout h.state h.stands; at = h.at }

pub plain_go : (work : Work) (u : UnitScope) (spot : code_spot.Spot) (asked : Asked) → noted.CanGo work u spot asked → CanGo work u spot asked
plain_go work u spot asked h =
    record { layout = h.layout; state = state_of h.state; frames = h.frames; found = h.found; stands = plainly work u h.layout h.state h.stands; placed = h.placed; notes = h.notes }

pub plain_set : (work : Work) (u : UnitScope) → noted.CanSet work u → CanSet work u
plain_set work u h = record { layout = h.layout; state = state_of h.state; notes = h.notes; stands = plainly work u h.layout h.state h.stands; asked = h.asked }

pub plain_use : (work : Work) (u : UnitScope) (at : code_use.Use) → noted.CanUse work u at → CanUse work u at
plain_use work u at h = record {
  layout = h.layout;
  state = state_of h.state;
  frames = h.frames;
  stands = plainly work u h.layout h.state h.stands;
  there = h.there;
  keyword = h.keyword;
  transformer = h.transformer;
  parts = h.parts;
  tail = h.tail;
  used = h.used;
}

-- the code has a macro where the state has one
pub macro_told : (work : Work) (ls : List Frames) (o : Option Macro) (p : Option (Transformer Frames Identifier)) → IsMacroIfAny work ls o p → is_some o ≡ is_some p
macro_told work ls None None h = refl
macro_told work ls None (Some m) h = absurd h
macro_told work ls (Some k) None h = absurd h
macro_told work ls (Some k) (Some m) h = refl

pub copied_some : (o : Option (Bor Macro)) → is_there o ≡ is_some (option_copied o)
copied_some None = refl
copied_some (Some b) = refl

-- what an identifier means was noted
pub lookup_stands : (known : Known) (work : Work) (u : UnitScope) (ls : List Frames) (s : Noting) (fs : Frames) (i : Identifier) (c : code_meaning.Meaning) (k : Bool) (x : code_noting.Noting) → SameStart u.form.trace.notes x → k ≡ is_some (macro_at s.macros (means_here s fs i)) →
    IsMeaning work.symbols s.unit s.form c (means_here s fs i) →
    (NotingStands work.symbols u.form.trace.notes s.since s.noted → IsMeaning work.symbols s.since.unit s.since.form c (means_here s fs i) → NotingStands work.symbols x s.since (looked_up s.since i (means_here s fs i) k ++ s.noted)) →
    Stands work u ls s → Stands work (with_notes u x) ls ((noting known).ask (Headed fs i ∷ []) s)
lookup_stands known work u ls s fs i c k x same keyword means law e =
    let m = means_here s fs i in
    notes_stand work u ls s x (look_up s fs i ++ s.noted) same
    (λ exact. subst (λ b. NotingStands work.symbols x s.since (looked_up s.since i m b ++ s.noted)) keyword
    (law (e.notes exact) (subst (λ n. IsMeaning work.symbols n s.since.form c m) (sym e.since_unit) (subst (λ n. IsMeaning work.symbols s.unit n c m) (sym e.since_form) means)))) e

-- ---- lists that match, from their ends

pub record Pair {X Y : Type 0} (P : X → Y → Type 0) (ys : List Y) (k : ℕ) (x : X) : Type 0 where
  pub other : Y
  pub held : P x other
  pub split : drop k ys ≡ other ∷ drop (k + 1) ys

pub pair_there : {X Y : Type 0} (P : X → Y → Type 0) (xs : List X) (ys : List Y) (k : ℕ) (d : X) → AllMatch P xs ys → k < length xs → Pair P ys k (get_or xs k d)
pair_there P [] ys k d h l = absurd (omega (arith, l))
pair_there P (x ∷ xs) [] k d h l = absurd h
pair_there P (x ∷ xs) (y ∷ ys) zero d h l = record { other = y; held = h.0; split = refl }
pair_there P (x ∷ xs) (y ∷ ys) (suc k) d h l =
    let q = pair_there P xs ys k d h.1 (omega (arith, l)) in
    let more : suc (k + 1) ≡ suc k + 1 = omega arith in
    record { other = q.other; held = q.held; split = q.split ∙ ap (λ (i : ℕ). q.other ∷ drop i (y ∷ ys)) more }

pub pairs_past : {X Y : Type 0} (P : X → Y → Type 0) (xs : List X) (ys : List Y) (k : ℕ) → AllMatch P xs ys → length xs ≤ k → drop k ys ≡ []
pairs_past P [] [] zero h l = refl
pairs_past P [] [] (suc k) h l = refl
pairs_past P [] (y ∷ ys) k h l = absurd h
pairs_past P (x ∷ xs) [] k h l = absurd h
pairs_past P (x ∷ xs) (y ∷ ys) zero h l = absurd (omega (arith, l))
pairs_past P (x ∷ xs) (y ∷ ys) (suc k) h l = pairs_past P xs ys k h.1 (omega (arith, l))

-- a list without its first so many, where one more is behind
pub one_back : {X Y : Type 0} (P : X → Y → Type 0) (xs : List X) (ys : List Y) (k left : ℕ) (d : X) → AllMatch P xs ys → left ≡ k + 1 → left ≤ length xs → (y : Y) × P (get_or xs k d) y × (drop k ys ≡ y ∷ drop left ys)
one_back P xs ys k left d h next within =
    let q = pair_there P xs ys k d h (omega (arith, next, within)) in
    (q.other, q.held, q.split ∙ ap (λ (i : ℕ). q.other ∷ drop i ys) (sym next))
