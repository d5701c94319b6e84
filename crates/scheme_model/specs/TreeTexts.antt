-- The trees of a text of symbols, `#t`, `#f`, quoted data and lists (R7RS 7.1.2), without places. It is read from its end on.
use Rattle.std.specs.Prelude.{ℕ, ◌==◌, List, [], ◌∷◌, ◌++◌, true, false, None, codes, if◌then◌else◌}
use Rattle.std.specs.Str.{bytes_eq}
use Rattle.scheme_model.specs.Trees.{Boolean, Tree, name, atom, list, Trees, no_trees, tree, Tail, proper, dotted}

-- the trees up to the end of a list, and its tail
pub record Row : Type 0 where
  pub trees : Trees (List ℕ)
  pub tail : Tail (List ℕ)

-- what stands behind a place of a text: the rest of the token there, then what is left of the list, and of those around it
pub record Behind : Type 0 where
  pub token : List ℕ
  pub row : Row
  pub around : List Row

abbrev pub row : Trees (List ℕ) → Tail (List ℕ) → Row
row ts tail = record { trees = ts; tail = tail }

abbrev pub behind : List ℕ → Row → List Row → Behind
behind token r rs = record { token = token; row = r; around = rs }

abbrev pub before : Tree (List ℕ) → Row → Row
before t r = row (tree t r.trees) r.tail

-- a dot makes the one tree behind it a tail
abbrev pub as_tail : Trees (List ℕ) → Row
as_tail no_trees = row no_trees proper
as_tail (tree t ts) = row no_trees (dotted t)

abbrev pub with_token : List ℕ → Row → Row
with_token [] r = r
with_token (c ∷ cs) r =
    if bytes_eq (c ∷ cs) (codes ".") then as_tail r.trees
    else if bytes_eq (c ∷ cs) (codes "#t") then before (atom (Boolean true) None) r
    else if bytes_eq (c ∷ cs) (codes "#f") then before (atom (Boolean false) None) r
    else before (name (c ∷ cs) None) r

-- a token begins or ends here
abbrev pub ended : Behind → Behind
ended b = behind [] (with_token b.token b.row) b.around

abbrev pub quoted : Trees (List ℕ) → Trees (List ℕ)
quoted no_trees = no_trees
quoted (tree t ts) = tree (list (tree (name (codes "quote") None) (tree t no_trees)) proper None) ts

-- a list begins here, behind which this is left of the one around it
abbrev pub opened : Row → List Row → Behind
opened r [] = behind [] r []
opened r (outer ∷ rs) = behind [] (before (list r.trees r.tail None) outer) rs

-- a space, an opening and a closing parenthesis, a quote; else a character of a token
abbrev pub character : ℕ → Behind → Behind
character c b =
    if c == 32 then ended b
    else if c == 40 then (let e = ended b in opened e.row e.around)
    else if c == 41 then (let e = ended b in behind [] (row no_trees proper) (e.row ∷ e.around))
    else if c == 39 then (let e = ended b in behind [] (row (quoted e.row.trees) e.row.tail) e.around)
    else behind (c ∷ b.token) b.row b.around

abbrev pub reading : List ℕ → Behind
reading [] = behind [] (row no_trees proper) []
reading (c ∷ cs) = character c (reading cs)

-- lines, the end of each a space
abbrev pub joined : List (List ℕ) → List ℕ
joined [] = []
joined (line ∷ lines) = line ++ 32 ∷ joined lines

abbrev pub trees_of : List (List ℕ) → Trees (List ℕ)
trees_of lines = (ended (reading (joined lines))).row.trees
