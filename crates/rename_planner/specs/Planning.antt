-- The conditions of a rename by their code and by the definition, as far as they compare no programs.
use Rattle.std.specs.Prelude.{◌≡◌, ◌≤◌, ℕ, List, [], length, map, Option, Some, None, Result, Ok, Err}
use Rattle.std.specs.List.{flat_map}
use Rattle.std.specs.Option.{ok_or}
use Rattle.std.specs.Str.{IsUtf8}
use Rattle.ls_base.specs.Limits.{max_text}
use Rattle.ls_base.specs.declared.encoding.Encoding.{Encoding}
use Rattle.scheme_model.specs.declared.Occ.{Occ}
use Rattle.scheme_model.specs.Diagnostics.{Diagnostic}
use Rattle.scheme_model.specs.Program.{result_at}
use Rattle.scheme_model.specs.Spelling.{is_member}
use Rattle.rename_model.specs.SameProgram.{Plan}
use Rattle.document_store.specs.Texts.{Document}
use Rattle.read_documents.specs.Readings.{Read}
use Rattle.program_answers.specs.Classed.{IsClassOf}
use Rattle.program_answers.specs.ToldAnswers.{facts_in}
use Rattle.text_edits.specs.Members.{prefix_of, stem_of}
use Rattle.rename_conditions.specs.Opened.{Opened, DocEdits, spans_read, edits_in, edited_in, plan_in, told_edits}
use Rattle.rename_conditions.specs.Renames as model
use Rattle.rename_conditions.specs.Renames.{Refusal, ◌>>=◌, unless, first_of}
use Rattle.document_changes.specs.Edited.{edited_documents}
use Rattle.rename_answers.specs.ToldRenames.{document_told, texts_of}
use Rattle.rename_answers.specs.RenameOutcomes.{RefusesAs}
use Rattle.rename_answers.specs.declared.faults.RenameFault.{RenameFault}
use Rattle.rename_answers.specs.declared.faults.RenameFault.TheVariants as faults
use Rattle.rename_planner.specs.declared.planning.Named.{Named}
use Rattle.rename_planner.specs.declared.planning.Planned.{Planned}
use Rattle.program_differences.specs.Exported.{changes_as}

-- what is known of each open text
pub record IsOpenText (text : List ℕ) : Type 0 where
  pub utf8 : IsUtf8 text
  pub short : length text ≤ max_text

-- ---- conditions

-- a condition of the code comes to what that of the definition comes to, or memory ran out
abbrev pub ComesTo : {A B : Type 0} → Encoding → List (List ℕ × Document) → (A → B → Type 0) → Result A Refusal → Result B RenameFault → Type 0
ComesTo encoding ds P (Ok a) (Ok b) = P a b
ComesTo encoding ds P (Ok a) (Err fault) = fault ≡ faults.Memory
ComesTo encoding ds P (Err refusal) (Ok b) = ⊥
ComesTo encoding ds P (Err refusal) (Err fault) = RefusesAs encoding ds refusal fault

-- nothing is told where it holds
abbrev pub Holds : {A B : Type 0} → A → B → Type 0
Holds a b = Unit {0}

abbrev pub Same : {A : Type 0} → A → A → Type 0
Same a b = b ≡ a

-- the Errors of units, in their order
abbrev pub errors_in : Opened → List ℕ → List Diagnostic
errors_in w units = flat_map (λ unit. model.errors_of (spans_read w) w.program (result_at w.program.units unit)) units

-- ---- before programs are compared

-- the identifier that is renamed, and its new stem
abbrev pub named_in : Opened → Option Occ → (symbol : Option (List ℕ)) → Result (Occ × List ℕ) Refusal
named_in w at symbol =
    ok_or (model.joined_at w.links at) model.NotBound >>= λ o.
    unless (first_of (model.standard_names w o)) model.IsStandard >>= λ done.
    ok_or (model.new_symbol symbol) model.BadName >>= λ name.
    unless (model.first_unread 0 w.readings) model.Unreadable >>= λ done.
    ok_or (stem_of (prefix_of w.links o) name) (model.PrefixLost (prefix_of w.links o)) >>= λ stem.
    Ok (o, stem)

-- what the class and the edited texts are refused by
abbrev pub fitting_in : Opened → Occ × List ℕ → Result (Occ × List ℕ) Refusal
fitting_in w c =
    unless (first_of (model.clashes w c.0)) model.PrefixClash >>= λ done.
    unless (first_of (model.errors_in_reach w c.0)) model.broken >>= λ done.
    unless (model.first_too_long 0 (edited_in w c.0 c.1)) model.TooLong >>= λ done.
    Ok c

abbrev pub planned_in : Opened → Option Occ → (symbol : Option (List ℕ)) → Result (Occ × List ℕ) Refusal
planned_in w at symbol = named_in w at symbol >>= fitting_in w

-- a class with its new stem
pub record IsNamed (ds : List (List ℕ × Document)) (rs : List Read) (c : Occ × List ℕ) (n : Named) : Type 0 where
  pub class : IsClassOf ds (facts_in rs) c.0 n.class
  pub stem : n.stem ≡ c.1

-- what is told of the edits, and the occurrences and exports by which programs are compared
pub record IsPlanned (encoding : Encoding) (ds : List (List ℕ × Document)) (w : Opened) (c : Occ × List ℕ) (p : Planned) : Type 0 where
  pub edits : p.edits ≡ map (document_told encoding ds) (told_edits (edits_in w c.0 c.1))
  pub texts : texts_of (edited_documents encoding p.edits ds) ≡ edited_in w c.0 c.1
  pub members : (o : Occ) → is_member p.plan.class o ≡ is_member (plan_in w c.0 c.1).members o
  pub exports : changes_as p.plan.exports ≡ (plan_in w c.0 c.1).exports
