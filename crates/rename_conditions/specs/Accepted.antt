-- When a rename is accepted: each of its conditions as a fact.
use Rattle.std.specs.Prelude.{◌≡◌, ◌≤◌, ℕ, List, [], ◌∷◌, ◌++◌, length, true, false, Option, Some, None, slice_get}
use Rattle.ls_base.specs.Limits.{max_text}
use Rattle.scheme_model.specs.declared.Occ.{Occ}
use Rattle.scheme_model.specs.Spelling.{is_joined, prefixes_of, standard_origins}
use Rattle.rename_model.specs.SameProgram.{IsSame}
use Rattle.text_edits.specs.Members.{prefix_of}
use Rattle.rename_conditions.specs.Readers.{Reader}
use Rattle.rename_conditions.specs.Opened.{Opened, DocEdits, program_read, class_in, reach_in, edits_in, edited_in, told_edits, plan_in}
use Rattle.rename_conditions.specs.Renames.{is_reserved, errors_in_reach}

-- an identifier that texts bind and that keeps its prefix gets a name that one can have; all documents read, no member of the class
-- would have two names, no unit in reach has an Error, no edited text is too long, and the program is the same but for what is asked
pub record IsAccepted (r : Reader) (w : Opened) (at : Option Occ) (new : List ℕ) (es : List DocEdits) : Type 0 where
  pub occ : Occ
  pub here : at ≡ Some occ
  pub joined : is_joined w.links occ ≡ true
  pub bound : standard_origins w.links (class_in w occ) ≡ []
  pub name : List ℕ
  pub named : r.symbol new ≡ Some name
  pub free : is_reserved name ≡ false
  pub read : (n : ℕ) → slice_get w.readings n ≡ Some None → ⊥
  pub first : ℕ
  pub rest : List ℕ
  pub kept : name ≡ prefix_of w.links occ ++ first ∷ rest
  pub apart : (n : ℕ) (o : Occ) → slice_get (class_in w occ) n ≡ Some o → length (prefixes_of w.links o []) ≤ 1
  pub whole : errors_in_reach w occ ≡ []
  pub fit : (n : ℕ) (text : List ℕ) → slice_get (edited_in w occ (first ∷ rest)) n ≡ Some text → length text ≤ max_text
  pub same : IsSame w.units w.program (program_read r w.uris (edited_in w occ (first ∷ rest))) (plan_in w occ (first ∷ rest)).exports (reach_in w occ)
  pub edits : es ≡ told_edits (edits_in w occ (first ∷ rest))
