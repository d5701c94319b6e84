-- The clauses of a `cond-expand`: the first that holds, one clause more, and that all clauses can be read before any is judged.
use Rattle.std.proofs.lemmas.Bool.Decides.{nat_tests}
use Rattle.std.proofs.Common.{◌≡◌, ℕ, zero, suc, ◌+◌, ◌<◌, ◌≤◌, List, [], ◌∷◌, length, get_or, drop, Bool, true, false, eqb, Option, Some, None, Result, Ok, Err, refl, sym, ap, ◌∙◌, subst, arith}
use Rattle.std.specs.Prelude.{◌&&◌, ◌||◌, not, slice_get, codes, IfSome, if◌then◌else◌}
use Rattle.std.specs.Option.{option_map}
use Rattle.std.specs.List.{AllByRecursion, list_all}
use Rattle.std.specs.Char.{is_ascii_digit}
use Rattle.std.specs.Str.{bytes_eq}
use Rattle.scheme_model.specs.Trees.{Numeral, Quoted, Character, Boolean, Bytes, Tree, name, atom, list, vector, Trees, no_trees, tree, Tail, proper, dotted}
use Rattle.scheme_model.specs.ExpansionFaults.{Fault, BadForm, ◌>>◌}
use Rattle.scheme_model.specs.Shapes.{first_of, one_of, some_of, list_of}
use Rattle.scheme_model.specs.Requirements.{Known, part_of, parts_of, library_name_of, holds, all_hold, some_holds, none_holds, is_else, clause_holds, or_chosen, choices, chosen_of}
use Rattle.scheme_model.specs.Ident.{Ident as Identifier, symbol_of}
use Rattle.scheme_model.specs.Order.{Here, Ops, given}
use Rattle.scheme_model.specs.Expression.{Expander, sequence, chosen_sequence}
use Rattle.scheme_model.specs.Steps.{◌>>=◌}
use Rattle.syntax_tree.specs.Looks.{PartsStand}
use Rattle.syntax_tree.specs.declared.trees.Work.{Work}
use Rattle.syntax_tree.specs.declared.trees.nodes.Tree as number
use Rattle.core_forms.specs.Forms.{choice_of, choices_in}
use Rattle.syntax_tree.specs.declared.trees.table.Region.{Region}
use Rattle.core_forms.specs.Named.{ChoiceNamed, TreesNamed}
use Rattle.core_forms.specs.Parts.{AllMatch, IsChoice}
use Rattle.core_forms.proofs.Reading.{grouped}
use Rattle.core_forms.specs.declared.shape.Choice.{Choice}
use Rattle.feature_requirements.specs.declared.requirements.ShapeFault.{ShapeFault}
use Rattle.feature_requirements.specs.declared.requirements.ShapeFault.TheVariants as fault
use Rattle.feature_requirements.specs.Judged.{Fails, clause_judged, is_nil, chosen_among, forms_of, or_first, some_chosen}

-- ---- clauses one after another

-- the clause at a place
pub record IsClauseAt (work : Work) (ps : List (Tree Identifier × Trees Identifier)) (k : ℕ) (c : Choice) : Type 0 where
  pub clause : Tree Identifier × Trees Identifier
  pub matches : IsChoice work c clause
  pub split : drop k ps ≡ clause ∷ drop (k + 1) ps
  pub got : slice_get ps k ≡ Some clause

pub clause_there : (work : Work) (k : ℕ) (cs : List Choice) (ps : List (Tree Identifier × Trees Identifier)) (d : Choice) → AllMatch (IsChoice work) cs ps → k < length cs → IsClauseAt work ps k (get_or cs k d)
clause_there work k [] ps d h l = absurd (omega arith)
clause_there work k (c ∷ cs) [] d h l = absurd h
clause_there work zero (c ∷ cs) (p ∷ ps) d h l = record { clause = p; matches = h.0; split = refl; got = refl }
clause_there work (suc k) (c ∷ cs) (p ∷ ps) d h l =
    let q = clause_there work k cs ps d h.1 (omega arith) in
    let more : suc (k + 1) ≡ suc k + 1 = omega arith in
    record { clause = q.clause; matches = q.matches; split = q.split ∙ ap (λ (m : ℕ). q.clause ∷ drop m (p ∷ ps)) more; got = q.got }

pub clauses_past : (work : Work) (k : ℕ) (cs : List Choice) (ps : List (Tree Identifier × Trees Identifier)) → AllMatch (IsChoice work) cs ps → length cs ≤ k → drop k ps ≡ []
clauses_past work zero [] [] h l = refl
clauses_past work zero [] (p ∷ ps) h l = absurd h
clauses_past work zero (c ∷ cs) ps h l = absurd (omega arith)
clauses_past work (suc k) [] [] h l = refl
clauses_past work (suc k) [] (p ∷ ps) h l = absurd h
clauses_past work (suc k) (c ∷ cs) [] h l = absurd h
clauses_past work (suc k) (c ∷ cs) (p ∷ ps) h l = clauses_past work k cs ps h.1 (omega arith)

-- whether clauses follow
pub last_is : (work : Work) (k : ℕ) (cs : List Choice) (ps : List (Tree Identifier × Trees Identifier)) → AllMatch (IsChoice work) cs ps → k < length cs → eqb (k + 1) (length cs) ≡ is_nil (drop (k + 1) ps)
last_is work k [] ps h l = absurd (omega arith)
last_is work k (c ∷ cs) [] h l = absurd h
last_is work zero (c ∷ []) (p ∷ []) h l = refl
last_is work zero (c ∷ []) (p ∷ q ∷ ps) h l = absurd h.1
last_is work zero (c ∷ d ∷ cs) (p ∷ []) h l = absurd h.1
last_is work zero (c ∷ d ∷ cs) (p ∷ q ∷ ps) h l = let e : eqb 1 (suc (suc (length cs))) ≡ false = grind (arith, nat_tests) in e
last_is work (suc k) (c ∷ cs) (p ∷ ps) h l =
    let more : suc (k + 1) ≡ suc k + 1 = omega arith in
    let step : eqb (suc k + 1) (suc (length cs)) ≡ eqb (k + 1) (length cs) = grind (arith, nat_tests) in
    step ∙ last_is work k cs ps h.1 (omega arith) ∙ ap (λ (m : ℕ). is_nil (drop m (p ∷ ps))) more

-- what comes of the clauses that are left, where this one was chosen before
abbrev pub after_choice : List (Tree Identifier × Trees Identifier) → Option ℕ → Result (Option (Trees Identifier)) (Fault Identifier) → Result (Option (Trees Identifier)) (Fault Identifier)
after_choice ps None r = r
after_choice ps (Some j) r = r >> λ later. Ok (forms_of ps (Some j))

kept_choice : (r : Result (Option (Trees Identifier)) (Fault Identifier)) → (r >> λ later. Ok later) ≡ r
kept_choice (Ok o) = refl
kept_choice (Err e) = refl

again_chosen : {X : Type 0} (r : Result (Option (Trees Identifier)) (Fault Identifier)) (f : Option (Trees Identifier) → Option (Trees Identifier)) (x : X) → ((r >> λ later. Ok (f later)) >> λ later. Ok x) ≡ (r >> λ later. Ok x)
again_chosen (Ok o) f x = refl
again_chosen (Err e) f x = refl

module _ (work : Work) (known : Known) (ps : List (Tree Identifier × Trees Identifier)) (k : ℕ) (c : Choice) (at : IsClauseAt work ps k c) (whole : Result (Option (Trees Identifier)) (Fault Identifier)) where
  one_more : (o : Option ℕ) → whole ≡ after_choice ps o (chosen_among known (drop k ps)) →
      whole ≡ after_choice ps o (clause_judged known at.clause.0 (is_nil (drop (k + 1) ps)) >> λ b. chosen_among known (drop (k + 1) ps) >> λ later. Ok (or_chosen b at.clause.1 later))
  one_more o h = h ∙ ap (λ (l : List (Tree Identifier × Trees Identifier)). after_choice ps o (chosen_among known l)) at.split

  pub choice_more : (o q : Option ℕ) (last here : Bool) → last ≡ is_nil (drop (k + 1) ps) → whole ≡ after_choice ps o (chosen_among known (drop k ps)) → clause_judged known at.clause.0 last ≡ Ok here → q ≡ or_first o here k →
      whole ≡ after_choice ps q (chosen_among known (drop (k + 1) ps))
  choice_more o q last here ends h judged e =
      one_more o h
      ∙ ap (λ r. after_choice ps o (r >> λ b. chosen_among known (drop (k + 1) ps) >> λ later. Ok (or_chosen b at.clause.1 later))) (ap (clause_judged known at.clause.0) (sym ends) ∙ judged)
      ∙ go o here ∙ ap (λ (p : Option ℕ). after_choice ps p (chosen_among known (drop (k + 1) ps))) (sym e)
    where
      go : (o : Option ℕ) (here : Bool) → after_choice ps o (chosen_among known (drop (k + 1) ps) >> λ later. Ok (or_chosen here at.clause.1 later)) ≡ after_choice ps (or_first o here k) (chosen_among known (drop (k + 1) ps))
      go None true = ap (λ (x : Option (Tree Identifier × Trees Identifier)). chosen_among known (drop (k + 1) ps) >> λ later. Ok (option_map (λ p. p.1) x)) (sym at.got)
      go None false = kept_choice (chosen_among known (drop (k + 1) ps))
      go (Some j) here = again_chosen (chosen_among known (drop (k + 1) ps)) (or_chosen here at.clause.1) (forms_of ps (Some j))

  pub choice_fails : (o : Option ℕ) (last : Bool) (e : ShapeFault) → last ≡ is_nil (drop (k + 1) ps) → whole ≡ after_choice ps o (chosen_among known (drop k ps)) → Fails e (clause_judged known at.clause.0 last) → Fails e whole
  choice_fails o last fault.BadForm ends h bad =
      one_more o h
      ∙ ap (λ r. after_choice ps o (r >> λ b. chosen_among known (drop (k + 1) ps) >> λ later. Ok (or_chosen b at.clause.1 later))) (ap (clause_judged known at.clause.0) (sym ends) ∙ bad)
      ∙ go o
    where
      go : (o : Option ℕ) → after_choice ps o (Err BadForm) ≡ Err BadForm
      go None = refl
      go (Some j) = refl
  choice_fails o last fault.Memory ends h bad = tt

-- all clauses were gone through
pub choice_all : (known : Known) (ps : List (Tree Identifier × Trees Identifier)) (k : ℕ) (o : Option ℕ) (whole : Result (Option (Trees Identifier)) (Fault Identifier)) → whole ≡ after_choice ps o (chosen_among known (drop k ps)) → drop k ps ≡ [] → whole ≡ Ok (forms_of ps o)
choice_all known ps k o whole h past = h ∙ ap (λ (l : List (Tree Identifier × Trees Identifier)). after_choice ps o (chosen_among known l)) past ∙ go o
  where
    go : (o : Option ℕ) → after_choice ps o (Ok None) ≡ Ok (forms_of ps o)
    go None = refl
    go (Some j) = refl

-- the forms of a clause that was chosen
pub forms_there : (work : Work) (k : ℕ) (cs : List Choice) (ps : List (Tree Identifier × Trees Identifier)) (d : Choice) → AllMatch (IsChoice work) cs ps → k < length cs → (ts : Trees Identifier) × (forms_of ps (Some k) ≡ Some ts) × PartsStand work (get_or cs k d).forms.items ts
forms_there work k cs ps d h l =
    let q = clause_there work k cs ps d h l in
    (q.clause.1, ap (option_map (λ p. p.1)) q.got, q.matches.1)

pub named_there : (work : Work) (region : Region) (k : ℕ) (cs : List Choice) (d : Choice) → AllByRecursion (ChoiceNamed work region) cs → k < length cs → TreesNamed work region (get_or cs k d).forms
named_there work region k [] d h l = absurd (omega arith)
named_there work region zero (c ∷ cs) d h l = h.0.1
named_there work region (suc k) (c ∷ cs) d h l = named_there work region k cs d h.1 (omega arith)

-- ---- a requirement has no other fault

abbrev OnlyBad : {Y : Type 0} → Result Y (Fault Identifier) → Type 0
OnlyBad (Ok y) = Unit {0}
OnlyBad (Err e) = e ≡ BadForm

then_bad : {X Y : Type 0} (r : Result X (Fault Identifier)) (f : X → Result Y (Fault Identifier)) → OnlyBad r → ((x : X) → OnlyBad (f x)) → OnlyBad (r >> f)
then_bad (Ok x) f h g = g x
then_bad (Err e) f h g = h

if_bad : {Y : Type 0} (b : Bool) (r s : Result Y (Fault Identifier)) → OnlyBad r → OnlyBad s → OnlyBad (if b then r else s)
if_bad true r s h g = h
if_bad false r s h g = g

part_bad : (t : Tree Identifier) → OnlyBad (part_of symbol_of t)
part_bad (name i o) = tt
part_bad (atom (Numeral s) o) = if_bad (list_all is_ascii_digit s) (Ok _) (Err BadForm) tt refl
part_bad (atom (Quoted s) o) = refl
part_bad (atom (Character c) o) = refl
part_bad (atom (Boolean b) o) = refl
part_bad (atom (Bytes s) o) = refl
part_bad (list ts tail o) = refl
part_bad (vector ts o) = refl

parts_bad : (ts : Trees Identifier) → OnlyBad (parts_of symbol_of ts)
parts_bad no_trees = tt
parts_bad (tree t ts) = then_bad (part_of symbol_of t) (λ p. parts_of symbol_of ts >> λ ps. Ok (p ∷ ps)) (part_bad t) (λ p. then_bad (parts_of symbol_of ts) (λ ps. Ok (p ∷ ps)) (parts_bad ts) (λ ps. tt))

some_bad : (ts : Trees Identifier) (tail : Tail Identifier) → OnlyBad (some_of ts tail)
some_bad no_trees tail = refl
some_bad (tree t ts) proper = tt
some_bad (tree t ts) (dotted u) = refl

one_bad : (ts : Trees Identifier) → OnlyBad (one_of ts proper)
one_bad no_trees = refl
one_bad (tree t no_trees) = tt
one_bad (tree t (tree u us)) = refl

list_bad : (t : Tree Identifier) → OnlyBad (list_of t)
list_bad (name i o) = refl
list_bad (atom a o) = refl
list_bad (list ts tail o) = tt
list_bad (vector ts o) = refl

name_bad : (t : Tree Identifier) → OnlyBad (library_name_of symbol_of t)
name_bad t =
    then_bad (list_of t) (λ p. some_of p.0 p.1 >> parts_of symbol_of) (list_bad t) (λ p. then_bad (some_of p.0 p.1) (parts_of symbol_of) (some_bad p.0 p.1) parts_bad)

library_bad : (k : Known) (ts : Trees Identifier) → OnlyBad (one_of ts proper >> library_name_of symbol_of >> λ n. Ok (k n))
library_bad k ts = then_bad (one_of ts proper >> library_name_of symbol_of) (λ n. Ok (k n)) (then_bad (one_of ts proper) (library_name_of symbol_of) (one_bad ts) name_bad) (λ n. tt)

module _ (k : Known) where
  mutual
    holds_bad : (t : Tree Identifier) → OnlyBad (holds symbol_of k t)
    holds_bad (name i o) = tt
    holds_bad (atom a o) = refl
    holds_bad (vector ts o) = refl
    holds_bad (list no_trees tail o) = refl
    holds_bad (list (tree (atom a p) ts) tail o) = refl
    holds_bad (list (tree (list us end p) ts) tail o) = refl
    holds_bad (list (tree (vector us p) ts) tail o) = refl
    holds_bad (list (tree (name i p) ts) (dotted u) o) = refl
    holds_bad (list (tree (name i p) ts) proper o) =
        if_bad (bytes_eq (symbol_of i) (codes "and")) _ _ (all_bad ts)
        (if_bad (bytes_eq (symbol_of i) (codes "or")) _ _ (some_holds_bad ts)
        (if_bad (bytes_eq (symbol_of i) (codes "not")) _ _ (none_bad ts)
        (if_bad (bytes_eq (symbol_of i) (codes "library")) _ _ (library_bad k ts) refl)))

    all_bad : (ts : Trees Identifier) → OnlyBad (all_hold symbol_of k ts)
    all_bad no_trees = tt
    all_bad (tree t ts) = then_bad (holds symbol_of k t) (λ a. all_hold symbol_of k ts >> λ b. Ok (a && b)) (holds_bad t) (λ a. then_bad (all_hold symbol_of k ts) (λ b. Ok (a && b)) (all_bad ts) (λ b. tt))

    some_holds_bad : (ts : Trees Identifier) → OnlyBad (some_holds symbol_of k ts)
    some_holds_bad no_trees = tt
    some_holds_bad (tree t ts) = then_bad (holds symbol_of k t) (λ a. some_holds symbol_of k ts >> λ b. Ok (a || b)) (holds_bad t) (λ a. then_bad (some_holds symbol_of k ts) (λ b. Ok (a || b)) (some_holds_bad ts) (λ b. tt))

    none_bad : (ts : Trees Identifier) → OnlyBad (none_holds symbol_of k ts)
    none_bad no_trees = refl
    none_bad (tree t no_trees) = then_bad (holds symbol_of k t) (λ a. Ok (not a)) (holds_bad t) (λ a. tt)
    none_bad (tree t (tree u us)) = refl

  judged_bad : (t : Tree Identifier) (last : Bool) → OnlyBad (clause_judged k t last)
  judged_bad t last = if_bad (is_else symbol_of t) (if last then Ok true else Err BadForm) (holds symbol_of k t) (if_bad last (Ok true) (Err BadForm) tt refl) (holds_bad t)

-- ---- clauses are read first, and then judged

module _ (k : Known) where
  clause_same : (t : Tree Identifier) (ts : Trees Identifier) (ps : List (Tree Identifier × Trees Identifier)) → choices_in ts ≡ Ok ps → clause_holds symbol_of k t ts ≡ clause_judged k t (is_nil ps)
  clause_same t no_trees [] h = refl
  clause_same t no_trees (p ∷ ps) h = absurd cc
  clause_same t (tree u us) [] h = never (choice_of u) (choices_in us) h
    where
      never : {P : Type 0} (r : Result (Tree Identifier × Trees Identifier) (Fault Identifier)) (s : Result (List (Tree Identifier × Trees Identifier)) (Fault Identifier)) → (r >> λ y. s >> λ ys. Ok (y ∷ ys)) ≡ Ok [] → P
      never (Err e) s h = absurd cc
      never (Ok y) (Err e) h = absurd cc
      never (Ok y) (Ok ys) h = absurd cc
  clause_same t (tree u us) (p ∷ ps) h = refl

  choice_bad : (t : Tree Identifier) → OnlyBad (choice_of t)
  choice_bad t =
      then_bad (list_of t) (λ p. some_of p.0 p.1 >> first_of) (list_bad t) (λ p. then_bad (some_of p.0 p.1) first_of (some_bad p.0 p.1) first_bad)
    where
      first_bad : (ts : Trees Identifier) → OnlyBad (first_of ts)
      first_bad no_trees = refl
      first_bad (tree t ts) = tt

  choices_bad : (ts : Trees Identifier) → OnlyBad (choices_in ts)
  choices_bad no_trees = tt
  choices_bad (tree t ts) = then_bad (choice_of t) (λ y. choices_in ts >> λ ys. Ok (y ∷ ys)) (choice_bad t) (λ y. then_bad (choices_in ts) (λ ys. Ok (y ∷ ys)) (choices_bad ts) (λ ys. tt))

  clause_bad : (t : Tree Identifier) (ts : Trees Identifier) → OnlyBad (clause_holds symbol_of k t ts)
  clause_bad t no_trees = if_bad (is_else symbol_of t) (Ok true) (holds symbol_of k t) tt (holds_bad k t)
  clause_bad t (tree u us) = if_bad (is_else symbol_of t) (Err BadForm) (holds symbol_of k t) refl (holds_bad k t)

  both_bad : (y : Tree Identifier × Trees Identifier) (f : Fault Identifier) (r : Result Bool (Fault Identifier)) → OnlyBad r → f ≡ BadForm → (r >> λ b. (Err f >> chosen_among k) >> λ later. Ok (or_chosen b y.1 later)) ≡ Err f
  both_bad y f (Ok b) g is = refl
  both_bad y f (Err e) g is = ap Err (g ∙ sym is)

  judged_then : (y : Tree Identifier × Trees Identifier) (ts : Trees Identifier) (r : Result (List (Tree Identifier × Trees Identifier)) (Fault Identifier)) → choices_in ts ≡ r → choices symbol_of k ts ≡ (r >> chosen_among k) →
      (clause_holds symbol_of k y.0 ts >> λ b. choices symbol_of k ts >> λ later. Ok (or_chosen b y.1 later)) ≡ ((r >> λ ys. Ok (y ∷ ys)) >> chosen_among k)
  judged_then y ts (Ok ps) e h =
      ap (λ (x : Result Bool (Fault Identifier)). x >> λ b. choices symbol_of k ts >> λ later. Ok (or_chosen b y.1 later)) (clause_same y.0 ts ps e)
      ∙ ap (λ (x : Result (Option (Trees Identifier)) (Fault Identifier)). clause_judged k y.0 (is_nil ps) >> λ b. x >> λ later. Ok (or_chosen b y.1 later)) h
  judged_then y ts (Err f) e h =
      ap (λ (x : Result (Option (Trees Identifier)) (Fault Identifier)). clause_holds symbol_of k y.0 ts >> λ b. x >> λ later. Ok (or_chosen b y.1 later)) h
      ∙ both_bad y f (clause_holds symbol_of k y.0 ts) (clause_bad y.0 ts) (subst OnlyBad e (choices_bad ts))

  pub choices_among : (ts : Trees Identifier) → choices symbol_of k ts ≡ (choices_in ts >> chosen_among k)
  choices_among no_trees = refl
  choices_among (tree t ts) =
      sym (grouped (list_of t) (λ p. some_of p.0 p.1 >> first_of) (λ q. clause_holds symbol_of k q.0 ts >> λ b. choices symbol_of k ts >> λ later. Ok (or_chosen b q.1 later)))
      ∙ go (λ y. judged_then y ts (choices_in ts) refl (choices_among ts)) (choice_of t)
    where
      go : ((y : Tree Identifier × Trees Identifier) → (clause_holds symbol_of k y.0 ts >> λ b. choices symbol_of k ts >> λ later. Ok (or_chosen b y.1 later)) ≡ ((choices_in ts >> λ ys. Ok (y ∷ ys)) >> chosen_among k)) → (c : Result (Tree Identifier × Trees Identifier) (Fault Identifier)) → (c >> λ q. clause_holds symbol_of k q.0 ts >> λ b. choices symbol_of k ts >> λ later. Ok (or_chosen b q.1 later)) ≡ ((c >> λ y. choices_in ts >> λ ys. Ok (y ∷ ys)) >> chosen_among k)
      go f (Ok y) = f y
      go f (Err e) = refl

  -- the clauses of a whole form
  pub chosen_is : (ts : Trees Identifier) (tail : Tail Identifier) → chosen_of symbol_of k ts tail ≡ (some_of ts tail >> choices_in >> chosen_among k)
  chosen_is ts tail = go (some_of ts tail)
    where
      go : (r : Result (Trees Identifier) (Fault Identifier)) → (r >> choices symbol_of k) ≡ ((r >> choices_in) >> chosen_among k)
      go (Ok us) = choices_among us
      go (Err e) = refl

-- ---- the chosen forms among expressions

pub chosen_sequence_is : {E L S : Type 0} (f : Expander E Identifier S) (ops : Ops E Identifier L S) (depth : ℕ) (here : Here) (e : E) (c : Option (Trees Identifier)) (s : S) →
    chosen_sequence f ops depth here e c s ≡ (given ops.plain here (some_chosen c) s >>= sequence f ops depth here e)
chosen_sequence_is f ops depth here e None s = refl
chosen_sequence_is f ops depth here e (Some no_trees) s = refl
chosen_sequence_is f ops depth here e (Some (tree t ts)) s = refl

-- ---- places of clauses

pub first_within : (o : Option ℕ) (here : Bool) (k n : ℕ) → IfSome o (λ j. j < n) → k < n → IfSome (or_first o here k) (λ j. j < n)
first_within None true k n h l = l
first_within None false k n h l = tt
first_within (Some j) here k n h l = h

-- trees of which there is one at least
pub some_there : (work : Work) (ns : List number.Tree) (ts : Trees Identifier) → PartsStand work ns ts → 0 < length ns → some_of ts proper ≡ Ok ts
some_there work [] no_trees h l = absurd (omega arith)
some_there work [] (tree t ts) h l = absurd h
some_there work (n ∷ ns) no_trees h l = absurd h
some_there work (n ∷ ns) (tree t ts) h l = refl
