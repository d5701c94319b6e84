-- A workspace without documents.
use Rattle.std.proofs.Common.{◌≡◌, ℕ, List, [], ◌∷◌, Bool, length, map, nat_cmp, refl, sym, ap, ◌∙◌, subst, arith}
use Rattle.std.specs.Cmp.Lexicographic.{slice_cmp}
use Rattle.std.specs.FinMap.{entries, empty, keys, len, len-entries, len-empty}
use Rattle.ls_base.specs.declared.encoding.Encoding.{Encoding}
use Rattle.ls_base.specs.declared.answers.Diagnostic as told
use Rattle.scheme_model.specs.Program.{units_of, program_of}
use Rattle.scheme_tokens.specs.LibraryNames.{library_text}
use Rattle.syntax_tree.specs.declared.trees.Work.{Work}
use Rattle.core_tree.specs.Units.{ProgramStands, UnitsStand}
use Rattle.core_tree.specs.declared.units.Program.{Program}
use Rattle.core_tree.specs.declared.units.Unit.{Unit as CodeUnit}
use Rattle.document_store.specs.Texts.{Document, Texts}
use Rattle.read_documents.specs.Readings.{Read, AreReadAs, documents_in, program_in}
use Rattle.read_documents.specs.Listed.{lists_of}
use Rattle.document_changes.specs.Parts.{parts_in}
use Rattle.workspace_state.specs.ProgramOfTexts.{IsProgramOfTexts}
use Rattle.workspace_state.specs.State.{AreListsFor, ArePartsOf}
use Rattle.program_answers.proofs.TextLists.{some_row}

no_length : {A : Type 0} (xs : List A) → length xs ≡ 0 → xs ≡ []
no_length [] h = refl
no_length (x ∷ xs) h = absurd (omega (arith, h))

none_there : (texts : Texts) → texts ≡ empty → entries texts ≡ []
none_there texts none = no_length (entries texts) (sym (len-entries texts) ∙ ap (λ (t : Texts). len t) none ∙ len-empty (slice_cmp nat_cmp) Document)

no_reads : (rs : List Read) → AreReadAs [] rs → rs ≡ []
no_reads [] h = refl
no_reads (r ∷ rs) h = absurd h

none_read : (texts : Texts) → texts ≡ empty → (rs : List Read) → AreReadAs (entries texts) rs → rs ≡ []
none_read texts none rs are = no_reads rs (subst (λ (ds : List (List ℕ × Document)). AreReadAs ds rs) (none_there texts none) are)

pub no_program : (texts : Texts) → texts ≡ empty → (work : Work) (program : Program) → program.units ≡ [] → IsProgramOfTexts texts work program
no_program texts none work program units = λ rs are.
    subst (λ (q : List Read). ProgramStands work library_text (keys texts) (units_of (documents_in q)) program (program_in q)) (sym (none_read texts none rs are))
    (subst (λ (us : List CodeUnit). UnitsStand work library_text (keys texts) [] (program_of []) 0 us []) (sym units) tt)

pub no_parts : (texts : Texts) → texts ≡ empty → (parts : List Bool) → parts ≡ [] → ArePartsOf texts parts
no_parts texts none parts nothing = λ rs are. nothing ∙ sym (ap (λ (q : List Read). parts_in (documents_in q)) (none_read texts none rs are))

pub no_lists : (e : Encoding) (texts : Texts) → texts ≡ empty → (lists : List (List ℕ × List told.Diagnostic)) → lists ≡ [] → AreListsFor e texts lists
no_lists e texts none lists nothing = λ rs are. nothing ∙ sym (ap (λ (ds : List (List ℕ × Document)). map (λ l. (l.uri, l.list)) (lists_of e ds rs)) (none_there texts none))

pub other_lists : (e f : Encoding) (texts : Texts) → texts ≡ empty → (lists : List (List ℕ × List told.Diagnostic)) → AreListsFor e texts lists → AreListsFor f texts lists
other_lists e f texts none lists are =
    let row = some_row (entries texts) in
    no_lists f texts none lists (are row.0 row.1 ∙ ap (λ (ds : List (List ℕ × Document)). map (λ l. (l.uri, l.list)) (lists_of e ds row.0)) (none_there texts none))
