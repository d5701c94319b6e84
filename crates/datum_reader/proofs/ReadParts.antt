-- What was read: the data of a text, and the parts of what was read.
use Rattle.std.proofs.Common.{◌≡◌, ℕ, zero, suc, ◌≤◌, List, [], ◌∷◌, Some, slice_get, refl, sym, subst, inl, inr}
use Rattle.ls_base.specs.Limits.{max_text}
use Rattle.scheme_tokens.specs.Lexical.{byte_count}
use Rattle.scheme_model.specs.Data.{Datum, atom, list, vector, bytes, Data, none, part, tail, row}
use Rattle.datum_reader.specs.Texts.{IsReading}
use Rattle.datum_reader.specs.WellFormed.{IsIn, IsAmong, WasRead}

in_self : (d : Datum) → IsIn d d
in_self (atom p k) = refl
in_self (list p ds) = inl refl
in_self (vector p ds) = inl refl
in_self (bytes p texts) = refl

mutual
  in_in : (d e f : Datum) → IsIn d e → IsIn e f → IsIn d f
  in_in d e (atom p k) h i = subst (λ (q : Datum). IsIn d q) i h
  in_in d e (list p ds) h (inl i) = subst (λ (q : Datum). IsIn d q) i h
  in_in d e (list p ds) h (inr i) = inr (in_among d e ds h i)
  in_in d e (vector p ds) h (inl i) = subst (λ (q : Datum). IsIn d q) i h
  in_in d e (vector p ds) h (inr i) = inr (in_among d e ds h i)
  in_in d e (bytes p texts) h i = subst (λ (q : Datum). IsIn d q) i h

  in_among : (d e : Datum) (ds : Data) → IsIn d e → IsAmong e ds → IsAmong d ds
  in_among d e none h i = absurd i
  in_among d e (part f ds) h (inl i) = inl (in_in d e f h i)
  in_among d e (part f ds) h (inr i) = inr (in_among d e ds h i)
  in_among d e (tail f) h i = in_in d e f h i

among_at : (ds : List Datum) (n : ℕ) (d : Datum) → slice_get ds n ≡ Some d → IsAmong d (row ds none)
among_at [] n d h = let never : ⊥ = cc in absurd never
among_at (e ∷ ds) zero d h = let same : e ≡ d = cc in inl (subst (λ (q : Datum). IsIn d q) (sym same) (in_self d))
among_at (e ∷ ds) (suc n) d h = inr (among_at ds n d h)

pub datum_was_read : (text : List ℕ) (ds : List Datum) (n : ℕ) (d : Datum) → byte_count text ≤ max_text → IsReading text ds → slice_get ds n ≡ Some d → WasRead d
datum_was_read text ds n d fits h at = record { text = text; all = ds; fits = fits; reading = h; among = among_at ds n d at }

pub part_was_read : (d e : Datum) → IsIn d e → WasRead e → WasRead d
part_was_read d e h w = record { text = w.text; all = w.all; fits = w.fits; reading = w.reading; among = in_among d e (row w.all none) h w.among }
