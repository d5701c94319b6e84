-- The identifiers of a document as the code keeps them are those of the units of the document, and edits are decided by the names that
-- tokens get.
use Rattle.std.proofs.Common.{◌≡◌, ℕ, zero, suc, ◌+◌, ◌<◌, List, [], ◌∷◌, ◌++◌, map, take, get_or, length, cond, Option, None, refl, sym, ap, ◌∙◌, append_assoc, append-nil}
use Rattle.std.specs.Prelude.{◌==◌}
use Rattle.std.proofs.lemmas.List.{take_more}
use Rattle.scheme_model.specs.declared.Occ.{Occ}
use Rattle.scheme_model.specs.Data.{place_of}
use Rattle.scheme_model.specs.Declarations.{UnitForm}
use Rattle.scheme_model.specs.Diagnostics.{Span, first_token}
use Rattle.scheme_model.specs.Program.{UnitResult}
use Rattle.scheme_model.specs.Sites.{names_in_forms, or_else}
use Rattle.document_store.specs.Texts.{Document}
use Rattle.read_documents.specs.Places.{AreHeads}
use Rattle.read_documents.specs.Readings.{Read, spans_in}
use Rattle.read_documents.specs.declared.heads.Head.{Head}
use Rattle.text_edits.specs.Members.{Identifier, identifier_in, identifiers_of, name_at}
use Rattle.text_edits.specs.NewNames.{edit_if, edits_from, edits_of}
use Rattle.text_edits.specs.Views.{first_at, identifier_by}
use Rattle.text_edits.proofs.KeyLaws.{or_again}
use Rattle.class_edits.specs.Named.{edits_by, identifiers_in}

-- ---- of units

first_told : (forms : List UnitForm) (n : ℕ) → first_at (map (λ f. (place_of f.datum).first) forms) n ≡ first_token forms n
first_told [] n = refl
first_told (f ∷ forms) zero = refl
first_told (f ∷ forms) (suc n) = first_told forms n

identifiers_told : (forms : List UnitForm) (os : List Occ) → map (identifier_by (map (λ f. (place_of f.datum).first) forms)) os ≡ map (identifier_in forms) os
identifiers_told forms [] = refl
identifiers_told forms (o ∷ os) = λ j. record { occ = o; token = first_told forms o.form j + o.token } ∷ identifiers_told forms os j

pub identifiers_are : (rs : List Read) (document n : ℕ) (hs : List Head) (us : List UnitResult) → AreHeads rs n hs us → identifiers_in document hs ≡ identifiers_of document us
identifiers_are rs document n [] [] h = refl
identifiers_are rs document n [] (r ∷ us) h = absurd h
identifiers_are rs document n (g ∷ hs) [] h = absurd h
identifiers_are rs document n (g ∷ hs) (r ∷ us) h =
    let forms = r.unit.forms in
    let names = names_in_forms r.unit.number 0 forms in
    (λ j. cond (h.0.document j == document) (map (identifier_by (h.0.firsts j)) (h.0.names j)) [] ++ identifiers_are rs document (suc n) hs us h.1 j)
    ∙ ap (λ (is : List Identifier). cond (r.unit.placed.document == document) is [] ++ identifiers_of document us) (identifiers_told forms names)

-- ---- of units one by one

both_at : (name : Occ → Option (List ℕ)) (is js : List Identifier) (n : ℕ) → name_at name (is ++ js) n ≡ or_else (name_at name is n) (name_at name js n)
both_at name [] js n = refl
both_at name (i ∷ is) js n =
    let here = cond (i.token == n) (name i.occ) None in
    ap (or_else here) (both_at name is js n) ∙ sym (or_again here (name_at name is n) (name_at name js n))

in_more : (document : ℕ) (hs : List Head) (h : Head) → identifiers_in document (hs ++ h ∷ []) ≡ identifiers_in document hs ++ cond (h.document == document) (map (identifier_by h.firsts.items) h.names.items) []
in_more document [] h = append-nil (cond (h.document == document) (map (identifier_by h.firsts.items) h.names.items) [])
in_more document (g ∷ hs) h =
    let here = cond (g.document == document) (map (identifier_by g.firsts.items) g.names.items) [] in
    ap (λ (is : List Identifier). here ++ is) (in_more document hs h) ∙ sym (append_assoc here (identifiers_in document hs) (cond (h.document == document) (map (identifier_by h.firsts.items) h.names.items) []))

pub noted_next : (name : Occ → Option (List ℕ)) (document : ℕ) (heads : List Head) (i : ℕ) (h : Head) (n : ℕ) (old new : Option (List ℕ)) → i < length heads → h ≡ get_or heads i h → old ≡ name_at name (identifiers_in document (take i heads)) n →
    new ≡ or_else old (name_at name (cond (h.document == document) (map (identifier_by h.firsts.items) h.names.items) []) n) → new ≡ name_at name (identifiers_in document (take (i + 1) heads)) n
noted_next name document heads i h n old new lt is was e =
    let next = cond (h.document == document) (map (identifier_by h.firsts.items) h.names.items) [] in
    e ∙ ap (λ (q : Option (List ℕ)). or_else q (name_at name next n)) was ∙ sym (both_at name (identifiers_in document (take i heads)) next n)
    ∙ sym (ap (λ (hs : List Head). name_at name (identifiers_in document hs) n) (take_more heads i h lt ∙ ap (λ (g : Head). take i heads ++ g ∷ []) (sym is))
    ∙ ap (λ (is : List Identifier). name_at name is n) (in_more document (take i heads) h))

-- ---- edits by the names of tokens

from_names : (f g : ℕ → Option (List ℕ)) → ((n : ℕ) → f n ≡ g n) → (text : List ℕ) (n : ℕ) (ss : List Span) → edits_from f text n ss ≡ edits_from g text n ss
from_names f g h text n [] = refl
from_names f g h text n (s ∷ ss) = λ j. edit_if text s (h n j) ++ from_names f g h text (suc n) ss j

pub by_names : (f g : ℕ → Option (List ℕ)) → ((n : ℕ) → f n ≡ g n) → (text : List ℕ) (ss : List Span) → edits_of f text ss ≡ edits_of g text ss
by_names f g h text ss = from_names f g h text 0 ss

at_names : (f g : Occ → Option (List ℕ)) → ((o : Occ) → f o ≡ g o) → (is : List Identifier) (n : ℕ) → name_at f is n ≡ name_at g is n
at_names f g h [] n = refl
at_names f g h (i ∷ is) n = λ j. or_else (cond (i.token == n) (h i.occ j) None) (at_names f g h is n j)

pub all_by_names : (f g : Occ → Option (List ℕ)) → ((o : Occ) → f o ≡ g o) → (us : List UnitResult) (n : ℕ) (ds : List (List ℕ × Document)) (rs : List Read) → edits_by f us n ds rs ≡ edits_by g us n ds rs
all_by_names f g h us n [] rs = refl
all_by_names f g h us n (d ∷ ds) [] = refl
all_by_names f g h us n (d ∷ ds) (r ∷ rs) =
    λ j. by_names (name_at f (identifiers_of n us)) (name_at g (identifiers_of n us)) (at_names f g h (identifiers_of n us)) d.1.1 (spans_in r) j ∷ all_by_names f g h us (suc n) ds rs j
