-- The forms of a unit that are worked on are those of its source, unless it is a part; what comes of them stands for the unit's forms.
use Rattle.std.proofs.Common.{◌≡◌, ℕ, suc, ◌+◌, List, [], ◌∷◌, ◌++◌, All, Bool, true, false, cond, length, map, refl, sym, ap, ◌∙◌, subst, arith}
use Rattle.std.specs.Prelude.{reverse}
use Rattle.scheme_model.specs.Declarations.{UnitForm, is_part_kind}
use Rattle.scheme_model.specs.Program.{Prepared, forms_at_work, with_refused}
use Rattle.scheme_model.specs.UnitExpansion.{Formed}
use Rattle.syntax_tree.specs.declared.trees.Work.{Work}
use Rattle.core_tree.specs.Units.{IsBlank, FormsStand, AreDefinitions, definitions_from, kind_as}
use Rattle.core_tree.specs.declared.cores.Binder.{Binder}
use Rattle.core_tree.specs.declared.units.UnitForm as core
use Rattle.unit_sources.specs.UnitsRead.{forms_of}
use Rattle.unit_sources.specs.declared.units.UnitForm as code
use Rattle.unit_sources.specs.declared.units.UnitSource.{UnitSource}
use Rattle.read_documents.specs.WereRead.{WereRead}
use Rattle.form_expansion.specs.Forms.{AreFormed}
use Rattle.unit_imports.proofs.Collecting.{blank_stand}
use Rattle.program_expansion.specs.AtWork.{worked_forms}
use Rattle.program_expansion.proofs.CollectLaws.{blank_define}

pub worked_is : (p : Prepared) (s : UnitSource) → kind_as s.kind ≡ p.placed.source.kind → p.forms ≡ forms_of s.forms → forms_at_work p ≡ forms_of (worked_forms s)
worked_is p s kind forms = ap (λ k. cond (is_part_kind k) [] p.forms) (sym kind) ∙ go (is_part_kind (kind_as s.kind))
  where
    go : (b : Bool) → cond b [] p.forms ≡ forms_of (cond b [] s.forms)
    go true = refl
    go false = forms

pub worked_read : (s : UnitSource) → WereRead (forms_of s.forms) → WereRead (forms_of (worked_forms s))
worked_read s read = go (is_part_kind (kind_as s.kind))
  where
    go : (b : Bool) → WereRead (forms_of (cond b [] s.forms))
    go true = tt
    go false = read

-- ---- those of a part

pub part_worked : (s : UnitSource) → is_part_kind (kind_as s.kind) ≡ true → worked_forms s ≡ []
part_worked s h = ap (λ (b : Bool). cond b [] s.forms) h

pub other_worked : (s : UnitSource) → is_part_kind (kind_as s.kind) ≡ false → worked_forms s ≡ s.forms
other_worked s h = ap (λ (b : Bool). cond b [] s.forms) h

-- none come to none
none_formed : (work : Work) (unit : ℕ) (cs : List core.UnitForm) (fs : List Formed) → length cs ≡ 0 → FormsStand work unit 0 cs fs → fs ≡ []
none_formed work unit [] [] long h = refl
none_formed work unit [] (f ∷ fs) long h = absurd h
none_formed work unit (c ∷ cs) fs long h = absurd (omega arith)

-- and blank forms stand for it
pub blank_stands : (work : Work) (unit : ℕ) (ss : List code.UnitForm) (cs bs : List core.UnitForm) (fs : List Formed) → ss ≡ [] → length cs ≡ length ss → All IsBlank bs → FormsStand work unit 0 cs fs → FormsStand work unit 0 bs (with_refused unit 0 (forms_of ss) fs)
blank_stands work unit ss cs bs fs none long blank h =
    subst (λ (xs : List code.UnitForm). FormsStand work unit 0 bs (with_refused unit 0 (forms_of xs) fs)) (sym none)
    (subst (λ (gs : List Formed). FormsStand work unit 0 bs gs) (sym (none_formed work unit cs fs (long ∙ ap (λ xs. length xs) none) h)) (blank_stand work unit 0 bs blank))

pub blank_definitions : (ss : List code.UnitForm) (cs bs : List core.UnitForm) → ss ≡ [] → length cs ≡ length ss → All IsBlank bs → definitions_from 0 bs ≡ definitions_from 0 cs
blank_definitions ss cs bs none long blank = blank_define 0 bs blank ∙ sym (of_none cs (long ∙ ap (λ xs. length xs) none))
  where
    of_none : (cs : List core.UnitForm) → length cs ≡ 0 → definitions_from 0 cs ≡ []
    of_none [] h = refl
    of_none (c ∷ cs) h = absurd (omega arith)

pub blank_are : (work : Work) (unit : ℕ) (ss : List code.UnitForm) (cs bs : List core.UnitForm) → ss ≡ [] → length cs ≡ length ss → All IsBlank bs → AreFormed work unit cs → AreFormed work unit bs
blank_are work unit ss cs bs none long blank h = record {
  formed = [];
  stand = blank_stand work unit 0 bs blank;
  defined = h.defined;
  definitions = subst (λ (ds : List (ℕ × Binder)). AreDefinitions work.symbols (reverse ds) h.defined) (sym (blank_definitions ss cs bs none long blank)) h.definitions;
}
