-- The texts of all diagnostics, by their codes and what they name. They stand here alone.
use Rattle.std.specs.Prelude.{ℕ, ◌==◌, nat_le, List, [], ◌∷◌, ◌++◌, codes, if◌then◌else◌}

-- codes with their words
abbrev pub Words : Type 0
Words = List (ℕ × List ℕ)

abbrev pub word_in : Words → ℕ → List ℕ
word_in [] code = []
word_in (w ∷ ws) code = if code == w.0 then w.1 else word_in ws code

-- texts that don't read
abbrev pub reading_words : Words
reading_words =
    (1, codes "bad token") ∷
    (2, codes "open string") ∷
    (3, codes "open bar") ∷
    (4, codes "open comment") ∷
    (5, codes "open list") ∷
    (6, codes "stray close") ∷
    (7, codes "bad dot") ∷
    (8, codes "bad byte") ∷
    (9, codes "datum label") ∷
    (10, codes "directive") ∷
    (11, codes "too deep") ∷
    (12, codes "missing datum") ∷
    []

-- rules, their uses, core forms, definitions, and how far an expansion may go
abbrev pub shape_words : Words
shape_words =
    (21, codes "bad syntax-rules") ∷
    (22, codes "two ellipses") ∷
    (23, codes "duplicate pattern variable ") ∷
    (24, codes "ellipsis depth of ") ∷
    (25, codes "idle ellipsis") ∷
    (26, codes "no rule of ") ∷
    (27, codes "ellipsis lengths differ") ∷
    (31, codes "bad form") ∷
    (32, codes "duplicate binder ") ∷
    (33, codes "definition in expression place") ∷
    (34, codes "bad record") ∷
    (35, codes "bad quasiquote") ∷
    (41, codes "keyword redefined ") ∷
    (42, codes "duplicate definition ") ∷
    (43, codes "keyword used as value ") ∷
    (44, codes "more than 10000 macro uses") ∷
    (45, codes "more than 200000 nodes") ∷
    (46, codes "too deep expansion") ∷
    (47, codes "syntax error: ") ∷
    (48, codes "include is refused") ∷
    []

-- imports, exports, units as a whole, and what is accepted
abbrev pub unit_words : Words
unit_words =
    (51, codes "not exported ") ∷
    (52, codes "import clash ") ∷
    (53, codes "bad import set") ∷
    (61, codes "bad declaration") ∷
    (62, codes "import cycle") ∷
    (63, codes "library defined twice") ∷
    (64, codes "not defined ") ∷
    (65, codes "exported twice ") ∷
    (66, codes "unit too large") ∷
    (67, codes "too many units") ∷
    (68, codes "include cycle") ∷
    (101, codes "definition hides import ") ∷
    (102, codes "library not known") ∷
    (103, codes "unbound ") ∷
    (104, codes "no import, (scheme base) is used") ∷
    (105, codes "included text not usable ") ∷
    []

-- what stands in front of the name, and behind it
abbrev pub front : ℕ → List ℕ
front code = if nat_le code 20 then word_in reading_words code else if nat_le code 50 then word_in shape_words code else word_in unit_words code

abbrev pub back : ℕ → List ℕ
back code = if code == 26 then codes " matches" else []

abbrev pub worded : ℕ → List ℕ → List ℕ
worded code name = front code ++ (name ++ back code)
