-- The standard libraries' names are proper.
use Rattle.std.proofs.Common.{◌≡◌, ℕ, true, List, [], ◌∷◌, codes, refl}
use Rattle.std.specs.List.{list_all}
use Rattle.scheme_model.specs.Requirements.{Symbol, LibraryName}
use Rattle.scheme_model.specs.StandardLibraries.{StandardLibrary, standard_libraries}
use Rattle.scheme_tokens.specs.LibraryNames.{IsProper}
use Rattle.scheme_tokens.proofs.Decoded.{is_encoded}
use Rattle.scheme_tokens.proofs.PartChars.{is_small, small_bytes}

-- `(scheme word)`
abbrev pub scheme : List ℕ → LibraryName
scheme word = Symbol (codes "scheme") ∷ Symbol word ∷ []

pub scheme_proper : (word : List ℕ) → list_all is_small word ≡ true → IsProper (scheme word)
scheme_proper word h = (is_encoded (codes "scheme") (codes "scheme") (small_bytes (codes "scheme") refl), (is_encoded word word (small_bytes word h), tt))

abbrev pub AreAllProper : List StandardLibrary → Type 0
AreAllProper [] = Unit {0}
AreAllProper (l ∷ ls) = IsProper l.name × AreAllProper ls

pub standard_proper : AreAllProper standard_libraries
unfolding standard_libraries
standard_proper = (
  scheme_proper (codes "base") refl,
  (
    scheme_proper (codes "case-lambda") refl,
    (
      scheme_proper (codes "char") refl,
      (
        scheme_proper (codes "complex") refl,
        (
          scheme_proper (codes "cxr") refl,
          (
            scheme_proper (codes "eval") refl,
            (
              scheme_proper (codes "file") refl,
              (
                scheme_proper (codes "inexact") refl,
                (
                  scheme_proper (codes "lazy") refl,
                  (
                    scheme_proper (codes "load") refl,
                    (
                      scheme_proper (codes "process-context") refl,
                      (
                        scheme_proper (codes "read") refl,
                        (scheme_proper (codes "repl") refl, (scheme_proper (codes "time") refl, (scheme_proper (codes "write") refl, tt))),
                      ),
                    ),
                  ),
                ),
              ),
            ),
          ),
        ),
      ),
    ),
  ),
)
