-- The conditions of the code and those of the definition.
use Rattle.std.proofs.Common.{◌≡◌, ℕ, zero, suc, ◌+◌, ◌==◌, List, [], ◌∷◌, ◌++◌, map, filter, length, Bool, true, false, Option, Some, None, Result, Ok, Err, cond, inl, inr, refl, sym, ap, ◌∙◌, subst, arith}
use Rattle.std.specs.Prelude.{nat_lt, ◌||◌, slice_get}
use Rattle.std.specs.List.{flat_map}
use Rattle.std.specs.Option.{ok_or, option_map}
use Rattle.std.specs.Str.{bytes_eq}
use Rattle.std.specs.Prelude.{codes}
use Rattle.std.proofs.lemmas.Bool.{lt-ltb}
use Rattle.ls_base.specs.Limits.{max_text}
use Rattle.scheme_model.specs.declared.Occ.{Occ}
use Rattle.scheme_model.specs.Diagnostics.{Diagnostic}
use Rattle.scheme_model.specs.Entries.{Source, At, StandardName, same_occ}
use Rattle.scheme_model.specs.Program.{UnitResult, result_at}
use Rattle.scheme_model.specs.Spelling.{Link, is_member, standard_origins, prefixes_of}
use Rattle.program_leaves.proofs.KeyLaws.{one_occ}
use Rattle.program_leaves.specs.Members.{IsIn}
use Rattle.arrow_index.proofs.ClassParts.{prefixes_have}
use Rattle.document_store.specs.Texts.{Document}
use Rattle.read_documents.specs.Readings as read
use Rattle.read_documents.specs.Readings.{Read, Reads, Stops, AreReadAs}
use Rattle.program_answers.specs.ToldAnswers.{document_at}
use Rattle.text_edits.specs.Edits.{edited}
use Rattle.text_edits.specs.Members.{is_part, class_edits}
use Rattle.text_edits.specs.NewNames as new
use Rattle.class_edits.specs.Clashes.{has_two}
use Rattle.class_edits.specs.DocumentEdits as code
use Rattle.rename_conditions.specs.Opened.{Opened, edits_from, all_edited}
use Rattle.rename_conditions.specs.Renames.{first_unread, first_too_long, is_reserved}
use Rattle.rename_answers.specs.ReadDocuments.{reading_of}
use Rattle.rename_answers.specs.ToldRenames.{texts_of}

-- ---- a document that the code tells by its uri, and the definition by its number

-- from a number on
abbrev pub IsNumbered : ℕ → List (List ℕ × Document) → Option (List ℕ) → Option ℕ → Type 0
IsNumbered n ds None None = Unit {0}
IsNumbered n ds None (Some m) = ⊥
IsNumbered n ds (Some uri) None = ⊥
IsNumbered n ds (Some uri) (Some m) = (k : ℕ) × (m ≡ n + k) × (uri ≡ (document_at ds k).0)

later : (n : ℕ) (d : List ℕ × Document) (ds : List (List ℕ × Document)) (a : Option (List ℕ)) (b : Option ℕ) → IsNumbered (suc n) ds a b → IsNumbered n (d ∷ ds) a b
later n d ds None None h = h
later n d ds None (Some m) h = h
later n d ds (Some uri) None h = h
later n d ds (Some uri) (Some m) h = let e : m ≡ n + suc h.0 = let k = h.1 in omega arith in (suc h.0, e, h.2)

at_once : (n : ℕ) → n ≡ n + 0
at_once n = omega arith

pub unread_one : (n : ℕ) (ds : List (List ℕ × Document)) (rs : List Read) → AreReadAs ds rs → IsNumbered n ds (read.first_unread ds rs) (first_unread n (map reading_of rs))
unread_one n [] [] h = tt
unread_one n [] (r ∷ rs) h = absurd h
unread_one n (d ∷ ds) [] h = absurd h
unread_one n (d ∷ ds) (Stops uri f ∷ rs) h = (0, at_once n, refl)
unread_one n (d ∷ ds) (Reads uri es spans ∷ rs) h = later n d ds (read.first_unread ds rs) (first_unread (suc n) (map reading_of rs)) (unread_one (suc n) ds rs h.1)

long_more : (n : ℕ) (d : List ℕ × Document) (ds : List (List ℕ × Document)) (text : List ℕ) (a : Option (List ℕ)) (b : Option ℕ) → IsNumbered (suc n) ds a b →
    IsNumbered n (d ∷ ds) (cond (nat_lt max_text (length text)) (Some d.0) a) (cond (nat_lt max_text (length text)) (Some n) b)
long_more n d ds text a b h = go (nat_lt max_text (length text)) (later n d ds a b h)
  where
    go : (t : Bool) → IsNumbered n (d ∷ ds) a b → IsNumbered n (d ∷ ds) (cond t (Some d.0) a) (cond t (Some n) b)
    go true k = (0, at_once n, refl)
    go false k = k

pub long_one : (w : Opened) (o : Occ) (stem : List ℕ) (n : ℕ) (ds : List (List ℕ × Document)) (rs : List Read) → AreReadAs ds rs →
    IsNumbered n ds (code.too_long ds (code.edits_from w.links w.program.units stem o n ds rs)) (first_too_long n (all_edited (edits_from w o stem n (texts_of ds) (map reading_of rs)) (texts_of ds)))
long_one w o stem n [] [] h = tt
long_one w o stem n [] (r ∷ rs) h = absurd h
long_one w o stem n (d ∷ ds) [] h = absurd h
long_one w o stem n (d ∷ ds) (Reads uri es spans ∷ rs) h =
    long_more n d ds (edited (class_edits w.links w.program.units stem o n d.1.1 spans) d.1.1) (code.too_long ds (code.edits_from w.links w.program.units stem o (suc n) ds rs))
    (first_too_long (suc n) (all_edited (edits_from w o stem (suc n) (texts_of ds) (map reading_of rs)) (texts_of ds))) (long_one w o stem (suc n) ds rs h.1)
long_one w o stem n (d ∷ ds) (Stops uri f ∷ rs) h =
    long_more n d ds (edited (class_edits w.links w.program.units stem o n d.1.1 []) d.1.1) (code.too_long ds (code.edits_from w.links w.program.units stem o (suc n) ds rs))
    (first_too_long (suc n) (all_edited (edits_from w o stem (suc n) (texts_of ds) (map reading_of rs)) (texts_of ds))) (long_one w o stem (suc n) ds rs h.1)

-- the one told from the first document on
pub from_first : (ds : List (List ℕ × Document)) (uri : List ℕ) (m : ℕ) → IsNumbered 0 ds (Some uri) (Some m) → uri ≡ (document_at ds m).0
from_first ds uri m h = let e : h.0 ≡ m = let k = h.1 in omega arith in h.2 ∙ ap (λ n. (document_at ds n).0) e

-- ---- members that have a prefix

-- a member of those that pass a test
member_filter : (f : Occ → Bool) (ms : List Occ) (o : Occ) → f o ≡ true → is_member (filter f ms) o ≡ is_member ms o
member_filter f [] o h = refl
member_filter f (m ∷ ms) o h = go (member_filter f ms o h) (f m) refl (same_occ m o) refl
  where
    opposite : (b : Bool) → b ≡ false → b ≡ true → ⊥
    opposite b p q = cc

    go : is_member (filter f ms) o ≡ is_member ms o → (b : Bool) → f m ≡ b → (c : Bool) → same_occ m o ≡ c → is_member (cond b (m ∷ filter f ms) (filter f ms)) o ≡ (same_occ m o || is_member ms o)
    go rest true e c k = ap (λ t. same_occ m o || t) rest
    go rest false e true k = absurd (opposite (f m) e (ap f (one_occ m o k) ∙ h))
    go rest false e false k = rest ∙ sym (ap (λ t. t || is_member ms o) k)

-- the target of a link has a prefix
target_part : (ls : List Link) (l : Link) → IsIn l ls → is_part ls l.target ≡ true
target_part ls l h = some (prefixes_of ls l.target []) (prefixes_have ls l.target [] l h refl)
  where
    some : (ts : List (List ℕ)) → IsIn l.prefix ts → nat_lt 0 (length ts) ≡ true
    some [] k = absurd k
    some (t ∷ ts) k = lt-ltb 0 (length (t ∷ ts)) (omega arith)

-- of one link
abbrev own_of : Source → Bool → List (List ℕ) → List (List ℕ)
own_of (At o) member rest = rest
own_of (StandardName s) true rest = s ∷ rest
own_of (StandardName s) false rest = rest

standards_among : (all ls : List Link) (ms : List Occ) → ((l : Link) → IsIn l ls → IsIn l all) → standard_origins ls (filter (is_part all) ms) ≡ standard_origins ls ms
standards_among all [] ms h = refl
standards_among all (l ∷ ls) ms h =
    let rest = standards_among all ls ms (λ m k. h m (inr k)) in
    let test : is_member (filter (is_part all) ms) l.target ≡ is_member ms l.target = member_filter (is_part all) ms l.target (target_part all l (h l (inl refl))) in
    λ j. own_of l.origin (test j) (rest j)

pub standards_same : (ls : List Link) (ms : List Occ) → standard_origins ls (filter (is_part ls) ms) ≡ standard_origins ls ms
standards_same ls ms = standards_among ls ls ms (λ l h. h)

-- one with two prefixes has one
two_some : (ts : List (List ℕ)) → nat_lt 1 (length ts) ≡ true → nat_lt 0 (length ts) ≡ true
two_some [] h = absurd cc
two_some (t ∷ ts) h = lt-ltb 0 (length (t ∷ ts)) (omega arith)

pub clashing_same : (ls : List Link) (ms : List Occ) → filter (has_two ls) (filter (is_part ls) ms) ≡ filter (has_two ls) ms
clashing_same ls [] = refl
clashing_same ls (m ∷ ms) = go (clashing_same ls ms) (is_part ls m) refl (has_two ls m) refl
  where
    opposite : (b : Bool) → b ≡ false → b ≡ true → ⊥
    opposite b p q = cc

    go : filter (has_two ls) (filter (is_part ls) ms) ≡ filter (has_two ls) ms → (b : Bool) → is_part ls m ≡ b → (c : Bool) → has_two ls m ≡ c →
        filter (has_two ls) (cond b (m ∷ filter (is_part ls) ms) (filter (is_part ls) ms)) ≡ cond (has_two ls m) (m ∷ filter (has_two ls) ms) (filter (has_two ls) ms)
    go rest true e c k = ap (λ ns. cond (has_two ls m) (m ∷ ns) ns) rest
    go rest false e true k = absurd (opposite (is_part ls m) e (two_some (prefixes_of ls m []) k))
    go rest false e false k = rest ∙ sym (ap (λ b. cond b (m ∷ filter (has_two ls) ms) (filter (has_two ls) ms)) k)

-- ---- new names

pub reserved_same : (s : List ℕ) → is_reserved s ≡ new.is_reserved s
reserved_same s = go (bytes_eq s []) (bytes_eq s (codes "...")) (bytes_eq s (codes "_"))
  where
    go : (a b c : Bool) → (a || b || c) ≡ (a || (b || c))
    go true b c = refl
    go false b c = refl
