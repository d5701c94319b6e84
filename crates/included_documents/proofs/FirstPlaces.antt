-- The place of the first document with each text, one document more.
use Rattle.std.proofs.Common.{◌≡◌, ℕ, suc, ◌+◌, Bool, true, false, cond, ◌<◌, List, [], ◌∷◌, ◌++◌, length, take, get_or, Option, Some, None, Ok, Err, refl, sym, ap, ◌∙◌, arith}
use Rattle.std.specs.Option.{is_some, option_or}
use Rattle.std.specs.Str.{bytes_eq}
use Rattle.std.proofs.lemmas.List.{take_more, length-take-le, length-map, map-append}
use Rattle.std.proofs.lemmas.Slice.Eq.{bytes_eq-Decides}
use Rattle.url.specs.Parts.{Parts}
use Rattle.url.specs.Parser.{Parsed, parse_url}
use Rattle.included_documents.specs.declared.named.Named.{Named}
use Rattle.included_documents.specs.Meant.{first_place, is_at}
use Rattle.included_documents.specs.Kept.{is_url, url_of, place_if, IsRead, uris_in}

first_or_later : (b : Bool) (k : ℕ) (o p : Option ℕ) → cond b (Some k) (option_or o p) ≡ option_or (cond b (Some k) o) p
first_or_later true k o p = refl
first_or_later false k o p = refl

first_push : (test : List ℕ → Bool) (k : ℕ) (xs : List (List ℕ)) (x : List ℕ) → first_place test k (xs ++ x ∷ []) ≡ option_or (first_place test k xs) (place_if (test x) (k + length xs))
first_push test k [] x = let e : k ≡ k + 0 = omega arith in ap (place_if (test x)) e
first_push test k (y ∷ xs) x =
    let e : suc k + length xs ≡ k + suc (length xs) = omega arith in
    ap (cond (test y) (Some k)) (first_push test (suc k) xs x ∙ ap (λ n. option_or (first_place test (suc k) xs) (place_if (test x) n)) e)
    ∙ first_or_later (test y) k (first_place test (suc k) xs) (place_if (test x) (k + suc (length xs)))

same_text : (s t : List ℕ) → bytes_eq s t ≡ true → s ≡ t
same_text s t e = (bytes_eq-Decides s t).0 e

-- a text that is known, or is new
pub known_first : (find : List ℕ → Option ℕ) (t s : List ℕ) (p : ℕ) → is_some (find t) ≡ true → find s ≡ option_or (find s) (place_if (bytes_eq s t) p)
known_first find t s p h = go (bytes_eq s t) refl (find s) refl
  where
    go : (b : Bool) → bytes_eq s t ≡ b → (o : Option ℕ) → find s ≡ o → o ≡ option_or o (place_if b p)
    go b e (Some n) q = refl
    go false e None q = refl
    go true e None q = let z : false ≡ true = sym (ap is_some (ap find (sym (same_text s t e)) ∙ q)) ∙ h in absurd cc

eq_turned : (t s : List ℕ) → bytes_eq t s ≡ bytes_eq s t
eq_turned t s = go (bytes_eq t s) refl (bytes_eq s t) refl
  where
    go : (a : Bool) → bytes_eq t s ≡ a → (b : Bool) → bytes_eq s t ≡ b → a ≡ b
    go true e true f = refl
    go false e false f = refl
    go true e false f = sym ((bytes_eq-Decides s t).1 (sym (same_text t s e))) ∙ f
    go false e true f = sym e ∙ (bytes_eq-Decides t s).1 (sym (same_text s t f))

pub new_first : (find : List ℕ → Option ℕ) (t s : List ℕ) (p : ℕ) → is_some (find t) ≡ false → cond (bytes_eq t s) (Some p) (find s) ≡ option_or (find s) (place_if (bytes_eq s t) p)
new_first find t s p h = ap (λ b. cond b (Some p) (find s)) (eq_turned t s) ∙ go (bytes_eq s t) refl (find s) refl
  where
    go : (b : Bool) → bytes_eq s t ≡ b → (o : Option ℕ) → find s ≡ o → cond b (Some p) o ≡ option_or o (place_if b p)
    go true e None q = refl
    go false e None q = refl
    go false e (Some n) q = refl
    go true e (Some n) q = let z : true ≡ false = sym (ap is_some (ap find (sym (same_text s t e)) ∙ q)) ∙ h in absurd cc

-- one document more
pub first_step : (test : List ℕ → Bool) (ds : List Named) (i : ℕ) (d : Named) (old new : Option ℕ) → i < length ds → d ≡ get_or ds i d → old ≡ first_place test 0 (uris_in (take i ds)) →
    new ≡ option_or old (place_if (test d.uri) i) → new ≡ first_place test 0 (uris_in (take (i + 1) ds))
first_step test ds i d old new lt is o n =
    n ∙ (λ j. option_or (o j) (place_if (test d.uri) (size j))) ∙ sym (first_push test 0 (uris_in (take i ds)) d.uri)
    ∙ ap (first_place test 0) (sym (map-append (λ (d : Named). d.uri) (take i ds) (d ∷ [])) ∙ ap (λ (x : Named). uris_in (take i ds ++ x ∷ [])) is ∙ ap uris_in (sym (take_more ds i d lt)))
  where
    size : i ≡ 0 + length (uris_in (take i ds))
    size = let e = length-map (take i ds) (λ (d : Named). d.uri) in let f = length-take-le i ds (omega arith) in omega arith

url_told : (s uri : List ℕ) (r : Parsed Parts) → parse_url None uri ≡ r → is_url s (url_of r) ≡ is_at s uri
url_told s uri (Ok url) e = rw e refl
url_told s uri (Err f) e = rw e refl

-- a document's URL has a text where its uri is at it
pub url_at : (s : List ℕ) (d : Named) → IsRead d → is_url s d.url ≡ is_at s d.uri
url_at s d e = ap (is_url s) e ∙ url_told s d.uri (parse_url None d.uri) refl
