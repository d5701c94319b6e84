-- A text has one answer, and one count of macro uses.
use Rattle.std.proofs.Common.{◌≡◌, ℕ, List, [], ◌∷◌, Bool, true, false, refl, sym, ap, ◌∙◌, true≢false, inl, inr}
use Rattle.std.specs.Str.{IsUtf8, is_utf8}
use Rattle.std.proofs.lemmas.Str.{IsUtf8-from_is_utf8, is_utf8-from_IsUtf8}
use Rattle.ls_base.specs.declared.encoding.Encoding.TheVariants.{Utf16}
use Rattle.scheme_model.specs.Faults as faults
use Rattle.read_documents.specs.Listed.{of_stop, told_in}
use Rattle.read_documents.specs.Readings.{Read, Reads, Stops}
use Rattle.program_answers.proofs.TextLists.{one_row}
use Rattle.command_lines.specs.Diagnostics.{diagnostic_line}
use Rattle.text_arrows.specs.CountedText.{CountsAlone}
use Rattle.text_arrows.specs.Printed.{IsAnswer, IsReadAlone, alone, arrows_alone, input_name, lines_of}
use Rattle.text_arrows.specs.Wording.{not_utf8_text}
use Rattle.text_arrows.proofs.AloneLaws.{read_alone}

first_read : (r q : Read) → r ∷ [] ≡ q ∷ [] → r ≡ q
first_read r q h = cc

one_read : (text : List ℕ) (r q : Read) → IsReadAlone text r → IsReadAlone text q → r ≡ q
one_read text r q h k = first_read r q (one_row (alone text) (r ∷ []) (q ∷ []) (h.0, tt, h.1) (k.0, tt, k.1))

reads_and_stops : (text : List ℕ) (ds : _) (spans : _) (f : faults.Stop) → IsReadAlone text (Reads input_name ds spans) → IsReadAlone text (Stops input_name f) → ⊥
reads_and_stops text ds spans f h k = let same = one_read text (Reads input_name ds spans) (Stops input_name f) h k in absurd cc

same_stop : (f g : faults.Stop) → Stops input_name f ≡ Stops input_name g → f ≡ g
same_stop f g h = cc

pub one_text : (text one other : List ℕ) → IsAnswer text one → IsAnswer text other → one ≡ other
one_text text one other (inl a) (inl b) =
    a.lines ∙ ap (λ (r : Read). lines_of (arrows_alone text r)) (one_read text (Reads input_name a.items a.spans) (Reads input_name b.items b.spans) a.reads b.reads) ∙ sym b.lines
one_text text one other (inl a) (inr (inl b)) = absurd (b.bad a.utf8)
one_text text one other (inl a) (inr (inr b)) = absurd (reads_and_stops text a.items a.spans b.stop a.reads b.stops)
one_text text one other (inr (inl a)) (inl b) = absurd (a.bad b.utf8)
one_text text one other (inr (inl a)) (inr (inl b)) = a.line ∙ sym b.line
one_text text one other (inr (inl a)) (inr (inr b)) = absurd (a.bad b.utf8)
one_text text one other (inr (inr a)) (inl b) = absurd (reads_and_stops text b.items b.spans a.stop b.reads a.stops)
one_text text one other (inr (inr a)) (inr (inl b)) = absurd (b.bad a.utf8)
one_text text one other (inr (inr a)) (inr (inr b)) =
    let same = same_stop a.stop b.stop (one_read text (Stops input_name a.stop) (Stops input_name b.stop) a.stops b.stops) in
    a.line ∙ ap (λ (f : faults.Stop). diagnostic_line input_name (told_in Utf16 text (of_stop 0 f))) same ∙ sym b.line

some_by : (text : List ℕ) (b : Bool) → is_utf8 text ≡ b → (r : Read) → IsReadAlone text r → (output : List ℕ) × IsAnswer text output
some_by text false is r read = (not_utf8_text, inr (inl (record { bad = λ utf8. true≢false (sym (is_utf8-from_IsUtf8 text utf8) ∙ is); line = refl })))
some_by text true is (Reads uri ds spans) read =
    (lines_of (arrows_alone text (Reads input_name ds spans)), inl (record { utf8 = IsUtf8-from_is_utf8 text is; items = ds; spans = spans; reads = (read.0, refl); lines = refl }))
some_by text true is (Stops uri f) read =
    (diagnostic_line input_name (told_in Utf16 text (of_stop 0 f)), inr (inr (record { utf8 = IsUtf8-from_is_utf8 text is; stop = f; stops = (read.0, refl); line = refl })))

pub some_text : (text : List ℕ) → (output : List ℕ) × IsAnswer text output
some_text text = let read = read_alone text in some_by text (is_utf8 text) refl read.0 read.1

-- ---- the macro uses that are counted

counted_by : (text : List ℕ) (b : Bool) → is_utf8 text ≡ b → (before m n : ℕ) → CountsAlone text before m → CountsAlone text before n → m ≡ n
counted_by text false is before m n h k =
    let bad : IsUtf8 text → ⊥ = λ utf8. true≢false (sym (is_utf8-from_IsUtf8 text utf8) ∙ is) in
    h.refused bad ∙ sym (k.refused bad)
counted_by text true is before m n h k =
    let utf8 = IsUtf8-from_is_utf8 text is in
    let read = read_alone text in
    h.opened utf8 read.0 read.1 ∙ sym (k.opened utf8 read.0 read.1)

pub one_count : (text : List ℕ) (before m n : ℕ) → CountsAlone text before m → CountsAlone text before n → m ≡ n
one_count text before m n h k = counted_by text (is_utf8 text) refl before m n h k
