-- Matching (R7RS 4.3.2): what the variables of a pattern stand for in a form, and which literals are compared.
use Rattle.std.specs.Prelude.{ℕ, zero, suc, ◌-◌, ◌*◌, ◌==◌, nat_le, List, [], ◌∷◌, ◌++◌, Bool, true, false, Option, Some, None, if◌then◌else◌}
use Rattle.std.specs.Str.{bytes_eq}
use Rattle.scheme_model.specs.Trees.{Atom, Numeral, Quoted, Character, Boolean, Bytes, Tree, name, atom, list, vector, Trees, no_trees, tree, Tail, proper, dotted}
use Rattle.scheme_model.specs.TreeParts.{count}
use Rattle.scheme_model.specs.ExpansionFaults.{Named, named}
use Rattle.scheme_model.specs.RulesShape.{Rule, Rules, Names, Role, IsLiteral, IsEllipsis, IsAny, IsVariable, role_of, dots_of, is_dots, dots_count}

-- what a variable stands for: a tree, or for each place of its ellipsis what it stands for there
mutual
  pub data Value (B : Type 0) : Type 0 where
    One : Tree B → Value B
    Many : Values B → Value B

  pub data Values (B : Type 0) : Type 0 where
    no_values : Values B
    value : Value B → Values B → Values B

pub record Binding (A B : Type 0) : Type 0 where
  pub variable : A
  pub value : Value B

-- what a match gives: the bindings, and the leaves of the form that met a literal
pub record Match (A B : Type 0) : Type 0 where
  pub bindings : List (Binding A B)
  pub met : List (Named B)

abbrev pub match_of : {A B : Type 0} → List (Binding A B) → List (Named B) → Match A B
match_of bindings met = record { bindings = bindings; met = met }

infixl 10 ◌>>=◌
abbrev pub ◌>>=◌ : {A B : Type 0} → Option A → (A → Option B) → Option B
(Some a) >>= f = f a
None >>= f = None

abbrev pub both : {A B : Type 0} → Match A B → Match A B → Match A B
both m n = match_of (m.bindings ++ n.bindings) (m.met ++ n.met)

-- what matching takes: how rules tell their identifiers, and whether a literal means the same as a leaf of the form
pub record Matcher (A B : Type 0) : Type 0 where
  pub role : A → Role
  pub dots : A → Bool
  pub means_same : A → B → Bool

abbrev pub same_truth : Bool → Bool → Bool
same_truth true b = b
same_truth false true = false
same_truth false false = true

-- atoms that `equal?` tells equal
abbrev pub same_atom : Atom → Atom → Bool
same_atom (Numeral s) (Numeral t) = bytes_eq s t
same_atom (Numeral s) (Quoted t) = false
same_atom (Numeral s) (Character d) = false
same_atom (Numeral s) (Boolean c) = false
same_atom (Numeral s) (Bytes t) = false
same_atom (Quoted s) (Numeral t) = false
same_atom (Quoted s) (Quoted t) = bytes_eq s t
same_atom (Quoted s) (Character d) = false
same_atom (Quoted s) (Boolean c) = false
same_atom (Quoted s) (Bytes t) = false
same_atom (Character d) (Numeral t) = false
same_atom (Character d) (Quoted t) = false
same_atom (Character d) (Character e) = d == e
same_atom (Character d) (Boolean c) = false
same_atom (Character d) (Bytes t) = false
same_atom (Boolean b) (Numeral t) = false
same_atom (Boolean b) (Quoted t) = false
same_atom (Boolean b) (Character d) = false
same_atom (Boolean b) (Boolean c) = same_truth b c
same_atom (Boolean b) (Bytes t) = false
same_atom (Bytes s) (Numeral t) = false
same_atom (Bytes s) (Quoted t) = false
same_atom (Bytes s) (Character d) = false
same_atom (Bytes s) (Boolean c) = false
same_atom (Bytes s) (Bytes t) = bytes_eq s t

-- the tree that is left of a list: its tail where no part is left, else a list that was built
abbrev pub rest_of : {B : Type 0} → Trees B → Tail B → Tree B
rest_of no_trees proper = list no_trees proper None
rest_of no_trees (dotted t) = t
rest_of (tree t ts) tail = list (tree t ts) tail None

-- so many parts at the front, and what follows them
abbrev pub front : {B : Type 0} → ℕ → Trees B → Trees B
front zero ts = no_trees
front (suc n) no_trees = no_trees
front (suc n) (tree t ts) = tree t (front n ts)

abbrev pub behind : {B : Type 0} → ℕ → Trees B → Trees B
behind zero ts = ts
behind (suc n) no_trees = no_trees
behind (suc n) (tree t ts) = behind n ts

-- the variables of a pattern, from left to right
abbrev pub variable_name : {A : Type 0} → Role → A → List A
variable_name IsLiteral i = []
variable_name IsEllipsis i = []
variable_name IsAny i = []
variable_name IsVariable i = i ∷ []

abbrev mutual
  pub names_in : {A : Type 0} → (A → Role) → Tree A → List A
  names_in role (name i o) = variable_name (role i) i
  names_in role (atom a o) = []
  names_in role (list ts tail o) = names_among role ts ++ names_behind role tail
  names_in role (vector ts o) = names_among role ts

  pub names_among : {A : Type 0} → (A → Role) → Trees A → List A
  names_among role no_trees = []
  names_among role (tree t ts) = names_in role t ++ names_among role ts

  pub names_behind : {A : Type 0} → (A → Role) → Tail A → List A
  names_behind role proper = []
  names_behind role (dotted t) = names_in role t

-- variables with no place
abbrev pub empty : {A B : Type 0} → List A → List (Binding A B)
empty [] = []
empty (i ∷ is) = record { variable = i; value = Many no_values } ∷ empty is

abbrev pub place_before : {B : Type 0} → Value B → Value B → Value B
place_before v (One t) = Many (value v no_values)
place_before v (Many vs) = Many (value v vs)

-- what variables stand for at one place, before what they stand for at the places after it
abbrev pub spread : {A B : Type 0} → List (Binding A B) → List (Binding A B) → List (Binding A B)
spread [] later = []
spread (b ∷ bs) [] = []
spread (b ∷ bs) (c ∷ cs) = record { variable = b.variable; value = place_before b.value c.value } ∷ spread bs cs

-- each of these parts matches, at one place of an ellipsis each
abbrev pub match_each : {A B : Type 0} → (Tree B → Option (Match A B)) → List A → Trees B → Option (Match A B)
match_each f names no_trees = Some (match_of (empty names) [])
match_each f names (tree t ts) = f t >>= λ m. match_each f names ts >>= λ n. Some (match_of (spread m.bindings n.bindings) (m.met ++ n.met))

abbrev pub nothing : {A B : Type 0} → Option (Match A B)
nothing = Some (match_of [] [])

abbrev pub when : {A B : Type 0} → Bool → Match A B → Option (Match A B)
when true m = Some m
when false m = None

-- a literal and a leaf of the form
abbrev pub match_literal : {A B : Type 0} → (A → B → Bool) → A → Tree B → Option (Match A B)
match_literal means_same i (name j o) = when (means_same i j) (match_of [] (named j o ∷ []))
match_literal means_same i (atom b o) = None
match_literal means_same i (list us tail o) = None
match_literal means_same i (vector us o) = None

abbrev pub match_name : {A B : Type 0} → (A → B → Bool) → Role → A → Tree B → Option (Match A B)
match_name means_same IsLiteral i t = match_literal means_same i t
match_name means_same IsEllipsis i t = None
match_name means_same IsAny i t = nothing
match_name means_same IsVariable i t = Some (match_of (record { variable = i; value = One t } ∷ []) [])

abbrev pub match_atom : {A B : Type 0} → Atom → Tree B → Option (Match A B)
match_atom a (name j o) = None
match_atom a (atom b o) = when (same_atom a b) (match_of [] [])
match_atom a (list us tail o) = None
match_atom a (vector us o) = None

-- a choice of which one side alone is worked out
abbrev pub chosen : {X : Type 0} → Bool → (Unit {0} → X) → (Unit {0} → X) → X
chosen true f g = f tt
chosen false f g = g tt

abbrev pub list_parts : {B : Type 0} → Tree B → Option (Trees B × Tail B)
list_parts (name j o) = None
list_parts (atom b o) = None
list_parts (list us tail o) = Some (us, tail)
list_parts (vector us o) = None

abbrev pub vector_parts : {B : Type 0} → Tree B → Option (Trees B)
vector_parts (name j o) = None
vector_parts (atom b o) = None
vector_parts (list us tail o) = None
vector_parts (vector us o) = Some us

abbrev pub first_part : {B : Type 0} → Trees B → Option (Tree B × Trees B)
first_part no_trees = None
first_part (tree t ts) = Some (t, ts)

-- a list that is at its end
abbrev pub at_end : {A B : Type 0} → Trees B → Tail B → Option (Match A B)
at_end no_trees proper = nothing
at_end no_trees (dotted t) = None
at_end (tree t ts) tail = None

-- an ellipsis takes all parts but as many as follow it in the pattern
abbrev pub taken : {B : Type 0} → ℕ → Trees B → Option (Trees B × Trees B)
taken after ts = if nat_le after (count ts) then Some (front (count ts - after) ts, behind (count ts - after) ts) else None

-- `rest` is how the tail of the pattern matches what its parts leave
abbrev mutual
  pub match_tree : {A B : Type 0} → Matcher A B → Tree A → Tree B → Option (Match A B)
  match_tree m (name i o) t = match_name m.means_same (m.role i) i t
  match_tree m (atom a o) t = match_atom a t
  match_tree m (list ps tail o) t = list_parts t >>= λ q. match_parts m ps (match_rest m tail) q.0 q.1
  match_tree m (vector ps o) t = vector_parts t >>= λ us. match_parts m ps at_end us proper

  pub match_parts : {A B : Type 0} → Matcher A B → Trees A → (Trees B → Tail B → Option (Match A B)) → Trees B → Tail B → Option (Match A B)
  match_parts m no_trees rest ts end = rest ts end
  match_parts m (tree p no_trees) rest ts end = first_part ts >>= λ q. match_tree m p q.0 >>= λ a. rest q.1 end >>= λ b. Some (both a b)
  match_parts m (tree p (tree d ps)) rest ts end =
      chosen (is_dots m.dots d)
      (λ u. taken (count ps) ts >>= λ q. match_each (λ t. match_tree m p t) (names_in m.role p) q.0 >>= λ a. match_parts m ps rest q.1 end >>= λ b. Some (both a b))
      (λ u. first_part ts >>= λ q. match_tree m p q.0 >>= λ a. match_parts m (tree d ps) rest q.1 end >>= λ b. Some (both a b))

  pub match_rest : {A B : Type 0} → Matcher A B → Tail A → Trees B → Tail B → Option (Match A B)
  match_rest m proper ts end = at_end ts end
  match_rest m (dotted p) ts end = match_tree m p (rest_of ts end)

-- ---- which literals are compared

-- how many parts a pattern takes at least, and whether an ellipsis may take more
abbrev pub least : {A : Type 0} → (A → Bool) → Trees A → ℕ
least dots ps = count ps - 2 * dots_count dots ps

abbrev pub tail_fits : {A B : Type 0} → Tail A → Bool → ℕ → ℕ → Tail B → Bool
tail_fits (dotted p) more n m end = nat_le n m
tail_fits proper more n m (dotted t) = false
tail_fits proper true n m proper = nat_le n m
tail_fits proper false n m proper = n == m

-- a list of a length and a tail that these parts can take
abbrev pub can_take : {A B : Type 0} → (A → Bool) → Trees A → Tail A → Trees B → Tail B → Bool
can_take dots ps tail ts end = tail_fits tail (nat_le 1 (dots_count dots ps)) (least dots ps) (count ts) end

abbrev pub pair_of : {A B : Type 0} → Role → A → Tree B → List (A × B)
pair_of IsLiteral i (name j o) = (i, j) ∷ []
pair_of IsLiteral i (atom b o) = []
pair_of IsLiteral i (list us tail o) = []
pair_of IsLiteral i (vector us o) = []
pair_of IsEllipsis i t = []
pair_of IsAny i t = []
pair_of IsVariable i t = []

abbrev pub pairs_each : {A B : Type 0} → (Tree B → List (A × B)) → Trees B → List (A × B)
pairs_each f no_trees = []
pairs_each f (tree t ts) = f t ++ pairs_each f ts

abbrev pub of_list : {X : Type 0} {B : Type 0} → Option (Trees B × Tail B) → (Trees B × Tail B → List X) → List X
of_list None f = []
of_list (Some q) f = f q

abbrev pub of_vector : {X : Type 0} {B : Type 0} → Option (Trees B) → (Trees B → List X) → List X
of_vector None f = []
of_vector (Some us) f = f us

abbrev pub of_first : {X : Type 0} {B : Type 0} → Trees B → (Tree B → Trees B → List X) → List X
of_first no_trees f = []
of_first (tree t ts) f = f t ts

-- nothing is left to compare
abbrev pub no_pairs : {A B : Type 0} → Trees B → Tail B → List (A × B)
no_pairs ts end = []

-- by shape alone, whether the parts match or not
abbrev mutual
  pub pairs_in : {A B : Type 0} → (A → Role) → (A → Bool) → Tree A → Tree B → List (A × B)
  pairs_in role dots (name i o) t = pair_of (role i) i t
  pairs_in role dots (atom a o) t = []
  pairs_in role dots (list ps tail o) t = of_list (list_parts t) (λ q. chosen (can_take dots ps tail q.0 q.1) (λ u. pairs_among role dots ps (pairs_behind role dots tail) q.0 q.1) (λ u. []))
  pairs_in role dots (vector ps o) t = of_vector (vector_parts t) (λ us. chosen (can_take dots ps proper us proper) (λ u. pairs_among role dots ps no_pairs us proper) (λ u. []))

  pub pairs_among : {A B : Type 0} → (A → Role) → (A → Bool) → Trees A → (Trees B → Tail B → List (A × B)) → Trees B → Tail B → List (A × B)
  pairs_among role dots no_trees rest ts end = rest ts end
  pairs_among role dots (tree p no_trees) rest ts end = of_first ts (λ t us. pairs_in role dots p t ++ rest us end)
  pairs_among role dots (tree p (tree d ps)) rest ts end =
      chosen (is_dots dots d)
      (λ u. pairs_each (λ t. pairs_in role dots p t) (front (count ts - count ps) ts) ++ pairs_among role dots ps rest (behind (count ts - count ps) ts) end)
      (λ u. of_first ts (λ t us. pairs_in role dots p t ++ pairs_among role dots (tree d ps) rest us end))

  pub pairs_behind : {A B : Type 0} → (A → Role) → (A → Bool) → Tail A → Trees B → Tail B → List (A × B)
  pairs_behind role dots proper ts end = []
  pairs_behind role dots (dotted p) ts end = pairs_in role dots p (rest_of ts end)

-- ---- rules

abbrev pub matcher : {A B : Type 0} → Names A → Rules A → (A → B → Bool) → Matcher A B
matcher n r means_same = record { role = role_of n r; dots = dots_of n r; means_same = means_same }

-- a rule that matches, and how
pub record Chosen (A B : Type 0) : Type 0 where
  pub rule : Rule A
  pub match : Match A B

abbrev pub or_later : {A B : Type 0} → Rule A → Option (Match A B) → (Unit {0} → Option (Chosen A B)) → Option (Chosen A B)
or_later rule (Some m) later = Some (record { rule = rule; match = m })
or_later rule None later = later tt

-- the first rule whose pattern matches what stands behind the head of the use
abbrev pub first_match : {A B : Type 0} → Matcher A B → List (Rule A) → Trees B → Tail B → Option (Chosen A B)
first_match m [] ts end = None
first_match m (rule ∷ rules) ts end = or_later rule (match_parts m rule.parts (match_rest m rule.tail) ts end) (λ u. first_match m rules ts end)

-- the literals of all rules with the identifiers at their places
abbrev pub compared : {A B : Type 0} → (A → Role) → (A → Bool) → List (Rule A) → Trees B → Tail B → List (A × B)
compared role dots [] ts end = []
compared role dots (rule ∷ rules) ts end =
    chosen (can_take dots rule.parts rule.tail ts end) (λ u. pairs_among role dots rule.parts (pairs_behind role dots rule.tail) ts end) (λ u. []) ++ compared role dots rules ts end
