-- The forms of a unit as they are gone through and expanded (R7RS 5.1, 5.3): what the code holds of each, and the state of the unit
-- that the trees and scopes stand for meanwhile.
use Rattle.std.specs.Prelude.{◌≡◌, ◌⊎◌, ℕ, suc, ◌+◌, ◌^◌, ◌≤◌, ◌<◌, nat_lt, List, [], ◌∷◌, length, map, reverse, slice_get, take, false, Option, Some, None, Result, Ok, Err, String}
use Rattle.std.specs.declared.alloc.Global.{Global}
use Rattle.std.specs.BTreeSet.{BTreeSet, contains_text}
use Rattle.scheme_model.specs.Ident.{Ident as Identifier}
use Rattle.scheme_model.specs.Declarations.{UnitForm, home_of}
use Rattle.scheme_model.specs.Cores.{Parts}
use Rattle.scheme_model.specs.Steps.{Broken}
use Rattle.scheme_model.specs.Order.{Left, Note, Pass, Counted, Transformer}
use Rattle.scheme_model.specs.UnitExpansion.{Formed, form_parts, max_total, nodes_in}
use Rattle.scheme_model.specs.CountedExpansion.{counted}
use Rattle.scheme_model.specs.Expression.{expand}
use Rattle.scheme_model.specs.Program.{Prepared, enough_turns}
use Rattle.scheme_model.specs.FormsAlike.{finish_by}
use Rattle.scheme_model.specs.Requirements.{Known}
use Rattle.scheme_model.specs.Substitution.{Defined}
use Rattle.macro_uses.specs.MacroUses.{total_of}
use Rattle.scheme_model.specs.Trees.{Tree}
use Rattle.scheme_model.specs.ScopedExpansion.{Frames, FramedIdent, ScopedState}
use Rattle.syntax_tree.specs.declared.trees.Work.{Work}
use Rattle.syntax_tree.specs.declared.trees.table.Region.{Region}
use Rattle.syntax_tree.specs.Works.{IsOpened, KeepsTrees, SameRegions, AddsIn}
use Rattle.syntax_tree.specs.Names.{KeepsNames}
use Rattle.datum_reader.specs.Seeded.{seeded_as}
use Rattle.core_tree.specs.Names.{AllMatch}
use Rattle.core_tree.specs.Traces.{IsFault}
use Rattle.core_tree.specs.Units.{FormsStand, IsResult, AreDefinitions, definitions_from, defined_by}
use Rattle.core_tree.specs.declared.traces.FormFault.{FormFault}
use Rattle.core_tree.specs.declared.units.UnitForm as code_form
use Rattle.feature_requirements.specs.Judged.{Knows, library_text}
use Rattle.kept_forms.specs.KeptForms.{LeftOrKept}
use Rattle.forgotten_locals.specs.Outside.{macros_outside, outside, IsOutside, IsOutsideOf, ForgetsLocals, forgotten}
use Rattle.forgotten_locals.specs.Ways.{firsts_by, seconds_by, unit_by}
use Rattle.note_laws.specs.Searching.{searching, none_kept, forms_anew}
use Rattle.noted_steps.specs.Noting.{Noting, noting, state_of}
use Rattle.core_tree.specs.declared.traces.Trace.{Trace}
use Rattle.form_notes.specs.Noted.{Noted, beginning}
use Rattle.form_notes.specs.Standing.{HaveNotes}
use Rattle.form_parts.specs.declared.items.Left as code_left
use Rattle.unit_scopes.specs.Editions.{EditionsTell}
use Rattle.unit_scopes.specs.declared.macros.Macros.{Macros}
use Rattle.root_laws.specs.AtRoot.{AllAtRoot}
use Rattle.unit_scopes.specs.Forgotten.{AreAtRoot, AllOwn, OwnFirst}
use Rattle.unit_scopes.specs.Opened.{IsNew}
use Rattle.unit_scopes.specs.Others.{InOrder}
use Rattle.unit_scopes.specs.State.{IsNumbered, numbered_in}
use Rattle.unit_scopes.specs.Searched.{searched, searched_unit_over}
use Rattle.unit_scopes.specs.Stepped.{turned, IsFresh}
use Rattle.expansion_laws.specs.Tops.{OfOk, ItemsBind}
use Rattle.unit_scopes.specs.Kept.{WaitsFor}
use Rattle.unit_scopes.specs.Units.{UnitStands, CountsFor, HasSpace, ItemFor, declared}
use Rattle.unit_scopes.specs.declared.scope.Budget.{Budget}
pub use Rattle.program_leaves.specs.Formed.{AreFormed}
use Rattle.form_expansion.specs.Ends.{numbers_of, Rise, IsAmong, Comes}
use Rattle.form_expansion.specs.declared.forms.Bench.{Bench}
use Rattle.form_expansion.specs.declared.forms.Declared as code
use Rattle.form_expansion.specs.declared.forms.SoFar as code_so_far

-- what is left of a form, or why it is broken
abbrev pub Passing : Type 0
Passing = Result (Left Identifier) Broken

-- the libraries that the texts are of
abbrev pub known_by : BTreeSet (String Global) → Known
known_by libraries n = contains_text libraries (library_text n)

-- ---- the bench

-- its trees and scopes stand for this state, in which nothing is local; macros and notes stand outside of all frames, and each scope is a
-- unit's own
pub record StandsOutside (b : Bench) (ls : List Frames) (s : ScopedState) (found : List (Note FramedIdent)) : Type 0 where
  pub stands : UnitStands b.work b.scope ls s found
  pub outside : IsOutside s
  pub macros : AllAtRoot s
  pub notes : AreAtRoot found
  pub own : AllOwn b.scope

-- they belong together: they stand for some state of a unit
pub record IsBench (b : Bench) : Type 0 where
  pub region : IsOpened b.work b.region
  pub layout : List Frames
  pub state : ScopedState
  pub notes : List (Note FramedIdent)
  pub stands : StandsOutside b layout state notes

-- a unit was begun of which nothing is done yet
pub record IsBegun (b : Bench) (unit : ℕ) : Type 0 where
  pub region : IsOpened b.work b.region
  pub layout : List Frames
  pub state : ScopedState
  pub stands : StandsOutside b layout state []
  pub first : OwnFirst b.scope
  pub number : state.unit ≡ unit
  pub fresh : (form : ℕ) → IsFresh state form

-- trees and names stay, and so do units that are still to be begun and the libraries that there are
pub record Stays (old new : Bench) : Type 0 where
  pub trees : KeepsTrees old.work new.work
  pub names : KeepsNames old.work.symbols new.work.symbols
  pub region : new.region ≡ old.region
  pub opened : IsOpened new.work new.region
  pub added : AddsIn old.work new.work old.region
  pub regions : SameRegions old.work new.work
  pub others : (v : ℕ) → IsNew old.scope v → IsNew new.scope v
  pub libraries : (known : Known) → Knows old.scope.libraries known → Knows new.scope.libraries known
  pub first : OwnFirst old.scope → OwnFirst new.scope

-- nothing but the form that is at work is another
abbrev pub IsTurned : (old new : Bench) → Type 0
IsTurned old new = new ≡ record old { scope = record old.scope { form = new.scope.form } }

-- nothing but its scopes is another, and they stand for the same
pub record IsForgotten (old new : Bench) : Type 0 where
  pub same : new ≡ record old { scope = new.scope }
  pub stands : (ls : List Frames) (s : ScopedState) (notes : List (Note FramedIdent)) → StandsOutside old ls s notes → StandsOutside new (take (old.scope.root + 1) ls) s notes

-- ---- forms that were gone through

-- nothing is met in a form that isn't expanded
pub record IsUntouched (d : code.Declared) : Type 0 where
  pub uses : d.so_far.budget.uses ≡ 0
  pub nodes : d.so_far.budget.nodes ≡ 0
  pub locals : d.so_far.budget.locals ≡ 0
  pub definitions : d.so_far.trace.definitions ≡ []
  pub keywords : d.so_far.trace.keywords ≡ []
  pub met : d.so_far.trace.uses ≡ []
  pub waiting : d.left.uses.items ≡ []
  pub aside : d.left.items ≡ []
  pub fault : d.so_far.fault ≡ None

abbrev pub declared_as : code_so_far.SoFar → code_left.Left → code.Declared
declared_as c l = record { so_far = c; left = l }

-- the macro uses that forms have counted
abbrev pub used_by : List code.Declared → ℕ
used_by [] = 0
used_by (d ∷ ds) = d.so_far.budget.uses + used_by ds

-- what is left of a form, or its fault
abbrev pub IsSetAside : Work → Region → (unit form : ℕ) → code.Declared → Option FormFault → Passing → Type 0
IsSetAside work region unit form d None (Ok l) = AllMatch (WaitsFor work unit form) d.left.uses.items l.uses × AllMatch (ItemFor work region unit form) d.left.items l.items
IsSetAside work region unit form d None (Err b) = ⊥
IsSetAside work region unit form d (Some e) (Ok l) = ⊥
IsSetAside work region unit form d (Some e) (Err b) = IsFault work.symbols e b

-- a form that isn't broken has space for what it set aside
abbrev pub HasSpaceLeft : Budget → Option FormFault → Type 0
HasSpaceLeft b None = HasSpace (2 ^ 43) b
HasSpaceLeft b (Some e) = Unit {0}

pub record IsDeclared (work : Work) (region : Region) (unit form : ℕ) (s : ScopedState) (d : code.Declared) (r : Passing) : Type 0 where
  pub counts : CountsFor work s form d.so_far.budget d.so_far.trace
  pub set_aside : IsSetAside work region unit form d d.so_far.fault r
  pub tops : OfOk (λ l. ItemsBind false l.items) r
  pub space : HasSpaceLeft d.so_far.budget d.so_far.fault

-- ---- one form

-- the unit stands, and the form is new
pub record CanPass (b : Bench) (unit form : ℕ) : Type 0 where
  pub layout : List Frames
  pub state : ScopedState
  pub notes : List (Note FramedIdent)
  pub stands : StandsOutside b layout state notes
  pub first : OwnFirst b.scope
  pub number : state.unit ≡ unit
  pub fresh : IsFresh state form

-- the unit stands, and the form was gone through
pub record CanFinish (b : Bench) (unit form : ℕ) (d : code.Declared) : Type 0 where
  pub layout : List Frames
  pub state : ScopedState
  pub notes : List (Note FramedIdent)
  pub stands : StandsOutside b layout state notes
  pub first : OwnFirst b.scope
  pub number : state.unit ≡ unit
  pub result : Passing
  pub form_is : IsDeclared b.work b.region unit form state d result

-- the tree of the form with a number, as a unit takes it
abbrev pub taken : (unit form : ℕ) → UnitForm → Tree Identifier
taken unit form f = seeded_as unit (home_of unit form f) f.datum

-- a form that is expanded, as it is gone through
abbrev pub passed : Known → (unit form : ℕ) → UnitForm → List (Note FramedIdent) → ScopedState → Pass Identifier FramedIdent × ScopedState
passed known unit form f notes s = declared known form (taken unit form f) notes s

abbrev pub AreInOrder : (behind : ℕ) → ScopedState → Type 0
AreInOrder behind s = InOrder (λ (d : Defined). d.form) 0 behind (defined_by s.unit s.table)

-- what was gone through of the other forms stays so
abbrev pub KeepsOthers : (old new : Bench) → (unit form : ℕ) → (s t : ScopedState) → Type 0
KeepsOthers old new unit form s t = (m : ℕ) (c : code.Declared) (r : Passing) → (m ≡ form → ⊥) → IsDeclared old.work old.region unit m s c r → IsDeclared new.work new.region unit m t c r

-- the same, forms to come are as new, and definitions stay in the order of their forms
pub record LeavesOthers (old new : Bench) (unit form : ℕ) (s t : ScopedState) : Type 0 where
  pub number : t.unit ≡ unit
  pub kept : KeepsOthers old new unit form s t
  pub fresh : (m : ℕ) → (m ≡ form → ⊥) → IsFresh s m → IsFresh t m
  pub in_order : (behind : ℕ) → behind ≤ suc form → AreInOrder behind s → AreInOrder (suc form) t

-- a form that was gone through by this step
pub record PassesTo (old new : Bench) (unit form : ℕ) (s : ScopedState) (p : Pass Identifier FramedIdent × ScopedState) (c : code.Declared) : Type 0 where
  pub layout : List Frames
  pub stands : UnitStands new.work new.scope layout p.1 p.0.notes
  pub form_is : IsDeclared new.work new.region unit form p.1 c p.0.left
  pub others : LeavesOthers old new unit form s p.1

-- and of which what is local is forgotten
pub record PassesOutside (old new : Bench) (unit form : ℕ) (s : ScopedState) (p : Pass Identifier FramedIdent × ScopedState) (c : code.Declared) : Type 0 where
  pub layout : List Frames
  pub stands : StandsOutside new layout p.1 p.0.notes
  pub form_is : IsDeclared new.work new.region unit form p.1 c p.0.left
  pub others : LeavesOthers old new unit form s p.1

abbrev pub PassesForm : (old new : Bench) → Known → (unit form : ℕ) → UnitForm → List (Note FramedIdent) → ScopedState → code.Declared → Type 0
PassesForm old new known unit form f notes s c = PassesOutside old new unit form s (forgotten (passed known unit form f notes s)) c

-- a form's uses are met, and what it set aside is expanded, while these forms count
abbrev pub expanding : Known → List ℕ → (form : ℕ) → Passing → ScopedState → Option (Result Parts Broken) × ScopedState
expanding known fs form r s = form_parts (searched known) (expand (searched known) enough_turns) [] fs r (turned form s)

-- forms with these numbers, among which is this one, have counted so many nodes
pub record HaveCounted (known : Known) (fs : List ℕ) (form : ℕ) (s : ScopedState) (total : ℕ) : Type 0 where
  pub rise : Rise 0 fs
  pub among : IsAmong form fs
  pub counted : nodes_in (searched known) fs s ≡ total

-- from one state a form came to the last: work on the unit ended there if that makes the nodes too many, and else gave this
abbrev pub GoesTo : Known → (form : ℕ) → Passing → (s : ScopedState) (before after : ℕ) → (last : ScopedState) → Result Parts Broken → Type 0
GoesTo known form r s before after last result =
    (fs : List ℕ) → HaveCounted known fs form s before → Comes (searched known) fs (expanding known fs form r s) after last (λ given. given ≡ result)

-- the same where what is local is forgotten then
abbrev pub EndsOutside : Known → (form : ℕ) → Passing → (s : ScopedState) (before after : ℕ) → (last : ScopedState) → Result Parts Broken → Type 0
EndsOutside known form r s before after last result =
    (fs : List ℕ) → HaveCounted known fs form s before → Comes (searched known) fs (forgotten (expanding known fs form r s)) after last (λ given. given ≡ result)

-- a form's uses are met, and what it set aside is expanded, with notes
abbrev pub left_noting : Known → Left Identifier → Noting → Noting
left_noting known l s = (finish_by (noting known) enough_turns [] (Ok l) s).1

-- the notes of a part that has ended: macros that aren't local have editions that tell their rules
pub record NotedInside (work : Work) (macros : Macros) (trace : Trace) (s : Noting) : Type 0 where
  pub notes : HaveNotes work.symbols s.since trace.notes.notes s.noted
  pub editions : EditionsTell work.symbols macros (state_of s) s.since.editions

-- the same once what is local was forgotten
pub record NotedOutside (work : Work) (macros : Macros) (trace : Trace) (s : Noting) : Type 0 where
  pub notes : HaveNotes work.symbols s.since trace.notes.notes s.noted
  pub editions : EditionsTell work.symbols macros (outside (state_of s)) s.since.editions

-- editions tell the rules of macros that aren't local, and what a form that isn't broken has noted stands
pub record MayNote (b : Bench) (form : ℕ) (s : ScopedState) (trace : Trace) (editions : ℕ → Option (Transformer Frames Identifier)) (ms : List Noted) (r : Passing) : Type 0 where
  pub tells : EditionsTell b.work.symbols b.scope.macros s editions
  pub notes : OfOk (λ l. HaveNotes b.work.symbols (beginning s.unit form (s.uses form) editions) trace.notes.notes ms) r

-- what a form came to, and the state then: the unit's definitions are those that there were, and so are the macros that aren't local
pub record FinishesTo (old new : Bench) (unit form : ℕ) (s : ScopedState) (c : code_form.UnitForm) : Type 0 where
  pub state : ScopedState
  pub number : state.unit ≡ unit
  pub kept : KeepsOthers old new unit form s state
  pub uses : (m : ℕ) → (m ≡ form → ⊥) → state.uses m ≡ s.uses m
  pub table : state.table ≡ s.table
  pub macros : macros_outside state.macros ≡ macros_outside s.macros
  pub result : Result Parts Broken
  pub met : Counted
  pub result_is : IsResult new.work unit form c result met
  pub definitions : AllMatch (IsNumbered new.work.symbols form) (reverse c.trace.definitions) (numbered_in unit form state.table)

-- a form has counted so much
pub record HasSpent (s : ScopedState) (form : ℕ) (b : Budget) : Type 0 where
  pub uses : b.uses ≡ s.uses form
  pub nodes : b.nodes ≡ s.nodes form
  pub locals : b.locals ≡ s.locals form

-- all that a form set aside is expanded, or as much as it takes to count too many nodes; each macro use that it begins is a step
pub record FinishesForm (old new : Bench) (known : Known) (unit form : ℕ) (r : Passing) (s : ScopedState) (before after : ℕ) (from to : ℕ) (b : Budget) (c : code_form.UnitForm) : Type 0 where
  pub finishes : FinishesTo old new unit form s c
  pub layout : List Frames
  pub notes : List (Note FramedIdent)
  pub stands : UnitStands new.work new.scope layout finishes.state notes
  pub at_root : AreAtRoot notes
  pub goes : GoesTo known form r s before after finishes.state finishes.result
  pub counted : finishes.met ≡ (searched known).counted finishes.state
  pub steps : to + s.uses form ≡ from + finishes.state.uses form
  pub spent : HasSpent finishes.state form b

-- and what is local to it is forgotten
pub record EndsForm (old new : Bench) (known : Known) (unit form : ℕ) (r : Passing) (s : ScopedState) (before after : ℕ) (from to : ℕ) (b : Budget) (c : code_form.UnitForm) : Type 0 where
  pub finishes : FinishesTo old new unit form s c
  pub layout : List Frames
  pub notes : List (Note FramedIdent)
  pub stands : StandsOutside new layout finishes.state notes
  pub goes : EndsOutside known form r s before after finishes.state finishes.result
  pub counted : finishes.met ≡ (searched known).counted finishes.state
  pub steps : to + s.uses form ≡ from + finishes.state.uses form
  pub spent : HasSpent finishes.state form b

-- ---- all forms

-- forms were gone through from the first on, and those from a place on are still held: what each set aside, in the state that is
-- reached by now
pub record FormsHeld (b : Bench) (unit place : ℕ) (ds : List code.Declared) : Type 0 where
  pub layout : List Frames
  pub state : ScopedState
  pub notes : List (Note FramedIdent)
  pub stands : StandsOutside b layout state notes
  pub number : state.unit ≡ unit
  pub held : (m : ℕ) (d : code.Declared) → place ≤ m → slice_get ds m ≡ Some d → (r : Passing) × IsDeclared b.work b.region unit m state d r
  pub in_order : AreInOrder (length ds) state

-- the forms from one on are as new
abbrev pub AreFresh : ℕ → ScopedState → Type 0
AreFresh place s = (m : ℕ) → place ≤ m → IsFresh s m

-- the numbers of forms that are left
abbrev pub numbers_left : List LeftOrKept → List ℕ
numbers_left rs = map (λ (r : LeftOrKept). r.form) rs

-- the forms from a number on: each is the next that was gone through, or isn't expanded
abbrev pub AreDeclared : Work → Region → (unit form : ℕ) → ScopedState → List code.Declared → List LeftOrKept → Type 0
AreDeclared work region unit form s [] [] = Unit {0}
AreDeclared work region unit form s [] (r ∷ rs) = ⊥
AreDeclared work region unit form s (d ∷ ds) [] = IsUntouched d × AreDeclared work region unit (suc form) s ds []
AreDeclared work region unit form s (d ∷ ds) (r ∷ rs) =
    (IsUntouched d × (form < r.form) × AreDeclared work region unit (suc form) s ds (r ∷ rs))
    ⊎ ((r.form ≡ form) × IsDeclared work region unit form s d r.left × AreDeclared work region unit (suc form) s ds rs)

-- forms with their numbers are gone through, and what is local is forgotten behind each: all, or as many as it takes to count too many nodes
pub record Passes (b : Bench) (unit : ℕ) (known : Known) (ts : List (ℕ × Tree Identifier)) (s : ScopedState) (total : ℕ) (ds : List code.Declared) : Type 0 where
  pub held : FormsHeld b unit 0 ds
  pub comes : Comes (counted known) (numbers_of ts) (firsts_by (searching enough_turns) known (numbers_of ts) (none_kept ts) [] s) total held.state (AreDeclared b.work b.region unit 0 held.state ds)
  pub used : total_of held.state.uses (numbers_of ts) ≡ used_by ds

-- forms that were gone through stand with what each set aside, by numbers that rise, and have counted so many nodes, which aren't too many
pub record CanFinishAll (b : Bench) (unit : ℕ) (known : Known) (rs : List LeftOrKept) (s : ScopedState) (total : ℕ) (ds : List code.Declared) : Type 0 where
  pub few : nat_lt max_total total ≡ false
  pub rise : Rise 0 (numbers_left rs)
  pub counted : nodes_in (searched known) (numbers_left rs) s ≡ total
  pub forms : AreDeclared b.work b.region unit 0 s ds rs

-- what they set aside is expanded, and what is local is forgotten behind each form: all of it, or as much as it takes to count too many nodes; each
-- macro use that they begin is a step
pub record Finishes (b : Bench) (unit : ℕ) (known : Known) (rs : List LeftOrKept) (s : ScopedState) (total : ℕ) (from to : ℕ) (cs : List code_form.UnitForm) : Type 0 where
  pub layout : List Frames
  pub last : ScopedState
  pub notes : List (Note FramedIdent)
  pub stands : StandsOutside b layout last notes
  pub comes : Comes (searched known) (numbers_left rs) (seconds_by (searching enough_turns) known (numbers_left rs) rs s) total last (FormsStand b.work unit 0 cs)
  pub definitions : nat_lt max_total total ≡ false → AreDefinitions b.work.symbols (reverse (definitions_from 0 cs)) (defined_by unit last.table)
  pub steps : to + total_of s.uses (numbers_left rs) ≡ from + total_of last.uses (numbers_left rs)

-- ---- the unit

-- from a state in which nothing is local, the unit comes to the same where what is local is forgotten behind each turn
abbrev pub MayForget : Known → Prepared → (s m : ScopedState) → Type 0
MayForget known p s m = ForgetsLocals (searched_unit_over known p s) (unit_by (searching enough_turns) known (forms_anew p) m)

-- the bench stands for what this state is outside of all forms
pub record StandsAt (b : Bench) (s : ScopedState) : Type 0 where
  pub layout : List Frames
  pub state : ScopedState
  pub notes : List (Note FramedIdent)
  pub stands : StandsOutside b layout state notes
  pub is : IsOutsideOf s state

-- what the forms of a unit come to, or nothing where work on it ended
abbrev pub AreUnfolded : Bench → (unit : ℕ) → ScopedState → Option (List code_form.UnitForm) → Option (List Formed) → Type 0
AreUnfolded b unit t None None = Unit {0}
AreUnfolded b unit t None (Some fs) = ⊥
AreUnfolded b unit t (Some cs) None = ⊥
AreUnfolded b unit t (Some cs) (Some fs) = FormsStand b.work unit 0 cs fs × AreDefinitions b.work.symbols (reverse (definitions_from 0 cs)) (defined_by unit t.table)

pub record Unfolds (b : Bench) (known : Known) (p : Prepared) (s : ScopedState) (cs : Option (List code_form.UnitForm)) : Type 0 where
  pub stands : StandsAt b (searched_unit_over known p s).1
  pub forms : AreUnfolded b p.number (searched_unit_over known p s).1 cs (searched_unit_over known p s).0
