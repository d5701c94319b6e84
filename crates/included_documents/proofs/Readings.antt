-- Documents whose uris are read.
use Rattle.std.proofs.Common.{◌≡◌, ℕ, zero, suc, ◌<◌, List, [], ◌∷◌, ◌++◌, length, Some, None, Ok, Err, refl, sym, ap, ◌∙◌, subst, arith}
use Rattle.std.specs.List.{All, slice_index_or}
use Rattle.std.specs.Str.{bytes_eq}
use Rattle.std.proofs.lemmas.List.Elements.{All-append}
use Rattle.url.specs.Parts.{Parts, serialize}
use Rattle.url.specs.Parser.{Parsed, parse_url}
use Rattle.included_documents.specs.declared.named.Named.{Named}
use Rattle.included_documents.specs.Meant.{at_text, by_base, first_place, is_at, meant, path_from, text_of, uri_at}
use Rattle.included_documents.specs.Kept.{url_of, IsRead, uris_in}

one_read : (d : Named) → IsRead d → All IsRead (d ∷ [])
one_read d r zero e lt = r
one_read d r (suc k) e lt = absurd (omega arith)

-- one more
pub read_more : (ds : List Named) (d : Named) → All IsRead ds → IsRead d → All IsRead (ds ++ d ∷ [])
read_more ds d all r = All-append IsRead ds (d ∷ []) all (one_read d r)

-- the place of a URL
pub at_url : (uris : List (List ℕ)) (r : Parsed Parts) (url : Parts) (text : List ℕ) → Some url ≡ url_of r → text ≡ serialize url → first_place (is_at text) 0 uris ≡ at_text uris (text_of r)
at_url uris (Ok u) url text e f = let g : url ≡ u = cc in ap (λ t. first_place (is_at t) 0 uris) (f ∙ ap serialize g)
at_url uris (Err e') url text e f = absurd cc

uri_there : (ds : List Named) (n : ℕ) (d : Named) → n < length ds → uri_at (uris_in ds) n ≡ (slice_index_or ds n d).uri
uri_there [] n d lt = absurd (omega arith)
uri_there (e ∷ ds) zero d lt = refl
uri_there (e ∷ ds) (suc n) d lt = uri_there ds n d (omega arith)

against_url : (uris : List (List ℕ)) (uri string : List ℕ) (r : Parsed Parts) (base : Parts) → url_of r ≡ Some base → at_text uris (text_of (parse_url (Some base) string)) ≡ by_base uris uri string r
against_url uris uri string (Ok url) base e = let g : base ≡ url = cc in ap (λ b. at_text uris (text_of (parse_url (Some b) string))) g
against_url uris uri string (Err f) base e = absurd cc

as_path : (uris : List (List ℕ)) (uri string : List ℕ) (r : Parsed Parts) → url_of r ≡ None → first_place (bytes_eq (path_from uri string)) 0 uris ≡ by_base uris uri string r
as_path uris uri string (Ok url) e = absurd cc
as_path uris uri string (Err f) e = refl

module _ (ds : List Named) (n : ℕ) (d : Named) (string : List ℕ) (lt : n < length ds) (is : d ≡ slice_index_or ds n d) (all : All IsRead ds) where
  its_uri : d.uri ≡ uri_at (uris_in ds) n
  its_uri = ap (λ (e : Named). e.uri) is ∙ sym (uri_there ds n d lt)

  its_url : d.url ≡ url_of (parse_url None d.uri)
  its_url = subst IsRead (sym is) (all n d lt)

  -- what a string means in a document with a URL, and in one without
  pub meant_by_url : (base : Parts) → d.url ≡ Some base → at_text (uris_in ds) (text_of (parse_url (Some base) string)) ≡ meant (uris_in ds) n string
  meant_by_url base e =
      against_url (uris_in ds) d.uri string (parse_url None d.uri) base (sym its_url ∙ e) ∙ ap (λ uri. by_base (uris_in ds) uri string (parse_url None uri)) its_uri

  pub meant_by_path : d.url ≡ None → first_place (bytes_eq (path_from d.uri string)) 0 (uris_in ds) ≡ meant (uris_in ds) n string
  meant_by_path e = as_path (uris_in ds) d.uri string (parse_url None d.uri) (sym its_url ∙ e) ∙ ap (λ uri. by_base (uris_in ds) uri string (parse_url None uri)) its_uri
