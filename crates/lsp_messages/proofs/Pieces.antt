-- The text of data, piece by piece.
use Rattle.std.proofs.Common.{◌≡◌, ◌≤◌, ◌+◌, ℕ, ℤ, pos, negsuc, SFits, w64, List, [], ◌∷◌, ◌++◌, Bool, true, false, Result, Ok, Err, OnOk, refl, sym, ap, ap₂, drop, ◌∙◌, append_assoc, codes}
use Rattle.std.specs.Fmt.{signed_decimal}
use Rattle.json.specs.Print.{escape}
use Rattle.json.proofs.Printed.Strings.{escape_byte_plain}
use Rattle.serde_json.specs.Data.{Data, Items, item, array}
use Rattle.serde_json.specs.Written.{comma_if, compact_text, items_text}
use Rattle.ls_base.specs.declared.answers.Diagnostic.{Diagnostic}
use Rattle.lsp_messages.specs.Replies.{natural_json, integer_json, range_json, diagnostic_json}
use Rattle.lsp_messages.specs.Written.{IsReadable, Writes}
use Rattle.lsp_messages.proofs.Readable.{AreReadable, IsReadable-array, IsReadable-string, IsReadable-integer, no_more, and_member, IsReadable-object}

signed_decimal-text : (z : ℤ) → signed_decimal z ≡ compact_text (integer_json z)
signed_decimal-text (pos n) = refl
signed_decimal-text (negsuc n) = refl

pub Writes-integer : (z same : ℤ) (old new : List ℕ) → SFits w64 z → same ≡ z → new ≡ old ++ signed_decimal same → Writes (integer_json z) old new
Writes-integer z same old new fits is wrote = record {
  appended = wrote ∙ ap (λ y. old ++ signed_decimal y) is ∙ ap (λ s. old ++ s) (signed_decimal-text z);
  readable = IsReadable-integer z fits;
}

-- a string with nothing to escape
escape-plain : (x : ℕ) (rest : List ℕ) → (x ≡ 34 → ⊥) → (x ≡ 92 → ⊥) → 32 ≤ x → escape rest ≡ rest → escape (x ∷ rest) ≡ x ∷ rest
escape-plain x rest quote backslash control same = ap₂ (λ s t. s ++ t) (escape_byte_plain x quote backslash control) same

pub escape-drop : (x : ℕ) (xs whole : List ℕ) (i : ℕ) → (x ≡ 34 → ⊥) → (x ≡ 92 → ⊥) → 32 ≤ x → drop i xs ≡ x ∷ drop (i + 1) xs → (escape (drop i xs) ≡ drop i xs → escape whole ≡ whole)
    → escape (drop (i + 1) xs) ≡ drop (i + 1) xs → escape whole ≡ whole
escape-drop x xs whole i quote backslash control here before same = before (ap escape here ∙ escape-plain x (drop (i + 1) xs) quote backslash control same ∙ sym here)

-- an object of two members
pub Writes-pair : {T E : Type 0} (r : Result T E) (whole d e : Data) (old new text : List ℕ) → OnOk r (new ≡ old ++ text) → OnOk r (IsReadable d) → OnOk r (IsReadable e) → compact_text whole ≡ text
    → (IsReadable d → IsReadable e → IsReadable whole) → OnOk r (Writes whole old new)
Writes-pair (Ok v) whole d e old new text wrote first second same readable = record { appended = wrote ∙ ap (λ s. old ++ s) (sym same); readable = readable first second }
Writes-pair (Err v) whole d e old new text wrote first second same readable = tt

regroup_item : (a b c d : List ℕ) → ((a ++ b) ++ c) ++ d ≡ a ++ (b ++ (c ++ d))
regroup_item a b c d = simp append_assoc

-- an item of a list
pub items_step : (later : Bool) (d : Data) (ds : Items) (old mid new whole : List ℕ) → mid ≡ old ++ comma_if later → Writes d mid new → old ++ items_text later (item d ds) ≡ whole → new ++ items_text true ds ≡ whole
items_step later d ds old mid new whole comma written rest =
    ap (λ s. s ++ items_text true ds) (written.appended ∙ ap (λ s. s ++ compact_text d) comma) ∙ regroup_item old (comma_if later) (compact_text d) (items_text true ds) ∙ rest

-- a list, from its bracket to the other
pub Writes-array : (ds : Items) (old opened last new : List ℕ) → opened ≡ old ++ 91 ∷ [] → last ++ 93 ∷ [] ≡ opened ++ items_text false ds → new ≡ last ++ 93 ∷ [] → AreReadable ds → Writes (array ds) old new
Writes-array ds old opened last new first rest end readable = record {
  appended = end ∙ rest ∙ ap (λ s. s ++ items_text false ds) first ∙ append_assoc old (91 ∷ []) (items_text false ds);
  readable = IsReadable-array ds readable;
}

regroup_five : (o p1 d1 p2 d2 p3 d3 p4 d4 p5 : List ℕ) → ((((((((o ++ p1) ++ d1) ++ p2) ++ d2) ++ p3) ++ d3) ++ p4) ++ d4) ++ p5 ≡ o ++ (p1 ++ (d1 ++ (p2 ++ (d2 ++ (p3 ++ (d3 ++ (p4 ++ (d4 ++ p5))))))))
regroup_five o p1 d1 p2 d2 p3 d3 p4 d4 p5 = simp append_assoc

-- four values, between five pieces
pub five_pieces : (d1 d2 d3 d4 : Data) (p1 p2 p3 p4 p5 t0 t1 t2 t3 t4 t5 t6 t7 t8 t9 : List ℕ)
    → t1 ≡ t0 ++ p1 → Writes d1 t1 t2 → t3 ≡ t2 ++ p2 → Writes d2 t3 t4 → t5 ≡ t4 ++ p3 → Writes d3 t5 t6 → t7 ≡ t6 ++ p4 → Writes d4 t7 t8 → t9 ≡ t8 ++ p5
    → t9 ≡ t0 ++ (p1 ++ (compact_text d1 ++ (p2 ++ (compact_text d2 ++ (p3 ++ (compact_text d3 ++ (p4 ++ (compact_text d4 ++ p5))))))))
five_pieces d1 d2 d3 d4 p1 p2 p3 p4 p5 t0 t1 t2 t3 t4 t5 t6 t7 t8 t9 e1 w1 e2 w2 e3 w3 e4 w4 e5 =
    let to2 : t2 ≡ (t0 ++ p1) ++ compact_text d1 = w1.appended ∙ ap (λ s. s ++ compact_text d1) e1 in
    let to4 : t4 ≡ (((t0 ++ p1) ++ compact_text d1) ++ p2) ++ compact_text d2 = w2.appended ∙ ap (λ s. s ++ compact_text d2) (e2 ∙ ap (λ s. s ++ p2) to2) in
    let to6 = w3.appended ∙ ap (λ s. s ++ compact_text d3) (e3 ∙ ap (λ s. s ++ p3) to4) in
    let to8 = w4.appended ∙ ap (λ s. s ++ compact_text d4) (e4 ∙ ap (λ s. s ++ p4) to6) in
    e5 ∙ ap (λ s. s ++ p5) to8 ∙ regroup_five t0 p1 (compact_text d1) p2 (compact_text d2) p3 (compact_text d3) p4 (compact_text d4) p5

pub Writes-diagnostic : (d : Diagnostic) (old new text : List ℕ) → IsReadable (natural_json d.code) → IsReadable (range_json d.range) → IsReadable (natural_json d.severity)
    → new ≡ old ++ text → compact_text (diagnostic_json d) ≡ text → Writes (diagnostic_json d) old new
Writes-diagnostic d old new text code range severity wrote same = record {
  appended = wrote ∙ ap (λ s. old ++ s) (sym same);
  readable = IsReadable-object _ (and_member _ _ _ _ _ code (and_member _ _ _ _ _ (IsReadable-string d.message) (and_member _ _ _ _ _ range (and_member _ _ _ _ _ severity (and_member _ _ _ _ _ (IsReadable-string (codes "scheme_ls")) (no_more _))))));
}
