-- There is one reader: each text reads in one way or doesn't, and is one identifier in one way or isn't.
use Rattle.std.proofs.Common.{◌≡◌, ℕ, List, [], ◌∷◌, map, Bool, true, false, Option, Some, None, Result, Ok, Err, refl, sym, ap, ◌∙◌, subst}
use Rattle.std.specs.Str.{chars, encode_utf8_all, all_scalars, IsUtf8}
use Rattle.std.proofs.lemmas.Str.{scalars-chars}
use Rattle.scheme_tokens.specs.Lexical.{TokenKind, IsIdentifier}
use Rattle.scheme_tokens.specs.Faults.{Fault}
use Rattle.scheme_tokens.specs.Mirror.Tokens.{token}
use Rattle.scheme_tokens.specs.Views.{symbol_of}
use Rattle.scheme_tokens.proofs.Decoded.{chars_back}
use Rattle.scheme_tokens.proofs.NameLaws.{names}
use Rattle.scheme_tokens.proofs.Same.Reading.{identifier_told, identifier_read}
use Rattle.datum_reader.proofs.ReadLaws.{one_reading}
use Rattle.datum_reader.proofs.TokensSeen.{text_once}
use Rattle.included_documents.specs.Meant.{meant}
use Rattle.text_edits.specs.NewNames.{span_of}
use Rattle.text_edits.proofs.SymbolLaws.{one_symbol}
use Rattle.rename_conditions.specs.Readers.{Reading, Reader, ReadsAs, IsSymbolOf, IsReader}
use Rattle.rename_conditions.proofs.ReadLaws as read

-- ---- the identifier that a text is

abbrev whole_name : TokenKind × List ℕ → Option (List ℕ)
whole_name (k, []) = symbol_of k
whole_name (k, c ∷ cs) = None

abbrev name_read : Result (TokenKind × List ℕ) Fault → Option (List ℕ)
name_read (Ok t) = whole_name t
name_read (Err f) = None

name_told : (text cs : List ℕ) (r : Result (TokenKind × List ℕ) Fault) → token text ≡ r → name_read r ≡ Some cs → IsIdentifier cs text
name_told text cs (Ok (k, [])) e h = let n = names k cs (sym h) in identifier_told cs text (n.0, e ∙ ap (λ (j : TokenKind). Ok (j, [])) n.1)
name_told text cs (Ok (k, c ∷ rest)) e h = absurd cc
name_told text cs (Err f) e h = absurd cc

name_there : (text cs : List ℕ) → IsIdentifier cs text → name_read (token text) ≡ Some cs
name_there text cs h = let read = identifier_read cs text h in ap name_read read.1

-- where it has a name in UTF-8
abbrev utf8_if : List ℕ → Bool → Option (List ℕ)
utf8_if cs true = Some (encode_utf8_all cs)
utf8_if cs false = None

abbrev utf8_of : Option (List ℕ) → Option (List ℕ)
utf8_of None = None
utf8_of (Some cs) = utf8_if cs (all_scalars cs)

abbrev symbol_in : List ℕ → Option (List ℕ)
symbol_in text = utf8_of (name_read (token (chars text)))

named_so : (text cs name : List ℕ) → name_read (token (chars text)) ≡ Some cs → IsUtf8 name → IsIdentifier (chars name) (chars text) → all_scalars cs ≡ true
named_so text cs name e u h = ap all_scalars (same cs (chars name) (sym e ∙ name_there (chars text) (chars name) h)) ∙ scalars-chars name u
  where
    same : (a b : List ℕ) → Some a ≡ Some b → a ≡ b
    same a b k = cc

symbol_told : (text : List ℕ) (o : Option (List ℕ)) → name_read (token (chars text)) ≡ o → IsSymbolOf text (utf8_of o)
symbol_told text None e = λ name u h. none (chars name) (sym e ∙ name_there (chars text) (chars name) h)
  where
    none : (a : List ℕ) → None ≡ Some a → ⊥
    none a k = cc
symbol_told text (Some cs) e = by (all_scalars cs) refl
  where
    opposite : (b : Bool) → b ≡ false → b ≡ true → ⊥
    opposite b h k = cc

    by : (b : Bool) → all_scalars cs ≡ b → IsSymbolOf text (utf8_if cs b)
    by true s = ((cs, (s, refl)), subst (λ (ds : List ℕ). IsIdentifier ds (chars text)) (sym (chars_back cs)) (name_told (chars text) cs (token (chars text)) refl e))
    by false s = λ name u h. opposite (all_scalars cs) s (named_so text cs name e u h)

pub reader_is_there : (r : Reader) × IsReader r
reader_is_there = (
  record { read = read.texts_are_read.0; symbol = symbol_in; meant = meant },
  record { reads = read.texts_are_read.1; names = λ text. symbol_told text (name_read (token (chars text))) refl; means = λ uris document string. refl },
)

-- ---- one at most

same_read : (text : List ℕ) (a b : Option Reading) → ReadsAs text a → ReadsAs text b → a ≡ b
same_read text None None h k = refl
same_read text None (Some q) h k = absurd (h q.items k.3)
same_read text (Some p) None h k = absurd (k p.items h.3)
same_read text (Some p) (Some q) h k =
    let items = one_reading (chars text) p.items q.items h.3 k.3 in
    let spans : p.spans ≡ q.spans = h.2 ∙ (ap (map span_of) (text_once (chars text) h.0 k.0 None None h.1 k.1).0 ∙ sym k.2) in
    λ i. Some (record { items = items i; spans = spans i })

same_symbol : (text : List ℕ) (a b : Option (List ℕ)) → IsSymbolOf text a → IsSymbolOf text b → a ≡ b
same_symbol text None None h k = refl
same_symbol text None (Some t) h k = absurd (h t k.0 k.1)
same_symbol text (Some s) None h k = absurd (k s h.0 h.1)
same_symbol text (Some s) (Some t) h k = ap (λ (n : List ℕ). Some n) (one_symbol (chars text) s t h.0 k.0 h.1 k.1)

pub readers_are_one : (r s : Reader) → IsReader r → IsReader s → r ≡ s
readers_are_one r s h k = λ i. record {
  read = λ text. same_read text (r.read text) (s.read text) (h.reads text) (k.reads text) i;
  symbol = λ text. same_symbol text (r.symbol text) (s.symbol text) (h.names text) (k.names text) i;
  meant = λ uris document string. (h.means uris document string ∙ sym (k.means uris document string)) i;
}
