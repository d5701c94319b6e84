-- Names by number: which differ, and which are among others.
use Rattle.std.proofs.Common.{◌≡◌, ℕ, zero, suc, ◌+◌, ◌<◌, ◌≤◌, List, [], ◌∷◌, length, map, take, drop, get_or, Bool, true, false, not, ◌||◌, Option, Some, None, Result, Ok, Err, refl, sym, ap, ◌∙◌, subst, arith}
use Rattle.std.specs.Prelude.{nat_eq, if◌then◌else◌}
use Rattle.std.specs.List.{list_any}
use Rattle.std.proofs.lemmas.List.Folds.{list_any_more}
use Rattle.scheme_model.specs.Trees.{Tree, name, atom, list, vector, Trees, no_trees, tree, Tail, proper, dotted}
use Rattle.scheme_model.specs.ExpansionFaults.{Named, Fault, BadForm, DuplicateBinder, ◌>>◌}
use Rattle.scheme_model.specs.Shapes.{Clause, FieldShape as ModelField, LocalMacros, RecordShape, is_among, distinct, distinct_from, all_among, list_of, proper_of, some_of, syntax_of, bindings_of, local_macros_of}
use Rattle.scheme_model.specs.Ident.{Ident as Identifier, same_ident}
use Rattle.syntax_tree.specs.Names.{AreToldApart}
use Rattle.syntax_tree.specs.Macros.{IsIdent, AreIdents}
use Rattle.syntax_tree.specs.declared.trees.Work.{Work}
use Rattle.syntax_tree.proofs.RoleLaws.{same_by_number, among_by_number}
use Rattle.core_forms.specs.declared.shape.NamePart.{NamePart}
use Rattle.core_forms.specs.Numbers.{twice_by_number, has_number, all_numbers}
use Rattle.core_forms.specs.declared.shape.ClauseShape.{ClauseShape}
use Rattle.core_forms.specs.declared.shape.FieldShape.{FieldShape}
use Rattle.core_forms.specs.declared.shape.LocalMacro.{LocalMacro}
use Rattle.core_forms.specs.Steps.{binding_of, bindings_in, bindings_of_list, record_with}
use Rattle.core_forms.specs.Parts.{AllMatch, IsName, IsClause, IsField, IsMacro, AreMacros}

-- a name that stands twice is that of the fault
abbrev pub IsTwice : Work → Option NamePart → Result (Unit {0}) (Fault Identifier) → Type 0
IsTwice work None s = s ≡ Ok tt
IsTwice work (Some n) s = (i : Named Identifier) × (s ≡ Err (DuplicateBinder i)) × IsName work n i

twice_step : (work : Work) (b : Bool) (n : NamePart) (i : Named Identifier) (m : Option NamePart) (x : Result (Unit {0}) (Fault Identifier)) → IsName work n i → IsTwice work m x →
    IsTwice work (if b then Some n else m) (if b then Err (DuplicateBinder i) else x)
twice_step work true n i m x h g = (i, refl, h)
twice_step work false n i m x h g = g

pub twice_is : (work : Work) (apart : AreToldApart work.symbols.idents) (seen : List ℕ) (before : List (Named Identifier)) (ns : List NamePart) (ms : List (Named Identifier)) → AreIdents work.symbols seen before → AllMatch (IsName work) ns ms →
    IsTwice work (twice_by_number seen ns) (distinct_from same_ident before ms)
twice_is work apart seen before [] [] s h = refl
twice_is work apart seen before [] (m ∷ ms) s h = absurd h
twice_is work apart seen before (n ∷ ns) [] s h = absurd h
twice_is work apart seen before (n ∷ ns) (m ∷ ms) s h =
    let e = among_by_number work.symbols apart n.ident m.name h.0.0 seen before s in
    let rest = twice_is work apart (n.ident ∷ seen) (m ∷ before) ns ms (h.0.0, s) h.1 in
    subst (λ (b : Bool). IsTwice work (twice_by_number seen (n ∷ ns)) (if b then Err (DuplicateBinder m) else distinct_from same_ident (m ∷ before) ms)) (sym e)
    (twice_step work (list_any (nat_eq n.ident) seen) n m (twice_by_number (n.ident ∷ seen) ns) (distinct_from same_ident (m ∷ before) ms) h.0 rest)

pub not_true : (b : Bool) → not b ≡ true → b ≡ false
not_true true h = absurd cc
not_true false h = refl

-- a name that isn't among those before it
pub twice_more : (seen : List ℕ) (ns us : List NamePart) (n : NamePart) → ns ≡ n ∷ us → list_any (nat_eq n.ident) seen ≡ false → twice_by_number seen ns ≡ twice_by_number (n.ident ∷ seen) us
twice_more seen ns us n e h = ap (twice_by_number seen) e ∙ ap (λ (b : Bool). if b then Some n else twice_by_number (n.ident ∷ seen) us) h

-- a name that is among those before it
pub twice_here : (seen : List ℕ) (ns us : List NamePart) (n : NamePart) → ns ≡ n ∷ us → list_any (nat_eq n.ident) seen ≡ true → twice_by_number seen ns ≡ Some n
twice_here seen ns us n e h = ap (twice_by_number seen) e ∙ ap (λ (b : Bool). if b then Some n else twice_by_number (n.ident ∷ seen) us) h

or_turned : (a b : Bool) → (a || b) ≡ (b || a)
or_turned true true = refl
or_turned true false = refl
or_turned false true = refl
or_turned false false = refl

-- one name more has one number more
pub numbers_more : (ns : List NamePart) (k : ℕ) (d : NamePart) (numbers : List ℕ) (q : ℕ) → k < length ns → has_number (take k ns) q ≡ list_any (nat_eq q) numbers →
    has_number (take (k + 1) ns) q ≡ list_any (nat_eq q) ((get_or ns k d).ident ∷ numbers)
numbers_more ns k d numbers q lt h =
    list_any_more (λ (m : NamePart). nat_eq q m.ident) ns k d lt ∙ ap (λ (b : Bool). b || nat_eq q (get_or ns k d).ident) h ∙ or_turned (list_any (nat_eq q) numbers) (nat_eq q (get_or ns k d).ident)

-- ---- names among others

has_is : (work : Work) (apart : AreToldApart work.symbols.idents) (n : ℕ) (i : Identifier) → IsIdent work.symbols n i → (fs : List NamePart) (ms : List (Named Identifier)) → AllMatch (IsName work) fs ms → is_among same_ident i ms ≡ has_number fs n
has_is work apart n i h [] [] a = refl
has_is work apart n i h [] (m ∷ ms) a = absurd a
has_is work apart n i h (f ∷ fs) [] a = absurd a
has_is work apart n i h (f ∷ fs) (m ∷ ms) a =
    let first = same_by_number work.symbols apart f.ident n m.name i a.0.0 h in
    let rest = has_is work apart n i h fs ms a.1 in
    λ k. first k || rest k

pub all_is : (work : Work) (apart : AreToldApart work.symbols.idents) (us fs : List NamePart) (xs ys : List (Named Identifier)) → AllMatch (IsName work) us xs → AllMatch (IsName work) fs ys → all_among same_ident xs ys ≡ all_numbers us fs
all_is work apart [] fs [] ys h g = refl
all_is work apart [] fs (x ∷ xs) ys h g = absurd h
all_is work apart (u ∷ us) fs [] ys h g = absurd h
all_is work apart (u ∷ us) fs (x ∷ xs) ys h g =
    let first = has_is work apart u.ident x.name h.0.0 fs ys g in
    let rest = all_is work apart us fs xs ys h.1 g in
    λ k. if first k then rest k else false

-- one name of some
pub numbers_no : (fields ns : List NamePart) (n : NamePart) (us : List NamePart) → ns ≡ n ∷ us → has_number fields n.ident ≡ false → all_numbers ns fields ≡ false
numbers_no fields ns n us e h = ap (λ (x : List NamePart). all_numbers x fields) e ∙ ap (λ (b : Bool). if b then all_numbers us fields else false) h

pub numbers_yes : (fields ns : List NamePart) (n : NamePart) (us : List NamePart) → ns ≡ n ∷ us → has_number fields n.ident ≡ true → all_numbers ns fields ≡ all_numbers us fields
numbers_yes fields ns n us e h = ap (λ (x : List NamePart). all_numbers x fields) e ∙ ap (λ (b : Bool). if b then all_numbers us fields else false) h

-- ---- clauses one after another

-- the clause at a place
pub record IsClauseAt (work : Work) (cs : List (Clause Identifier)) (k : ℕ) (n : ClauseShape) : Type 0 where
  pub clause : Clause Identifier
  pub is : IsClause work n clause
  pub split : drop k cs ≡ clause ∷ drop (suc k) cs

clause_at : (work : Work) (k : ℕ) (ns : List ClauseShape) (cs : List (Clause Identifier)) (d : ClauseShape) → AllMatch (IsClause work) ns cs → k < length ns → IsClauseAt work cs k (get_or ns k d)
clause_at work k [] cs d h l = absurd (omega arith)
clause_at work k (n ∷ ns) [] d h l = absurd h
clause_at work zero (n ∷ ns) (c ∷ cs) d h l = record { clause = c; is = h.0; split = refl }
clause_at work (suc k) (n ∷ ns) (c ∷ cs) d h l = let p = clause_at work k ns cs d h.1 (omega arith) in record { clause = p.clause; is = p.is; split = p.split }

pub clause_there : (work : Work) (k : ℕ) (ns : List ClauseShape) (cs : List (Clause Identifier)) (n : ClauseShape) → AllMatch (IsClause work) ns cs → k < length ns → n ≡ get_or ns k n → IsClauseAt work cs k n
clause_there work k ns cs n h l e = subst (IsClauseAt work cs k) (sym e) (clause_at work k ns cs n h l)

pub clauses_past : (work : Work) (k : ℕ) (ns : List ClauseShape) (cs : List (Clause Identifier)) → AllMatch (IsClause work) ns cs → length ns ≤ k → drop k cs ≡ []
clauses_past work zero [] [] h l = refl
clauses_past work zero [] (c ∷ cs) h l = absurd h
clauses_past work zero (n ∷ ns) cs h l = absurd (omega arith)
clauses_past work (suc k) [] [] h l = refl
clauses_past work (suc k) [] (c ∷ cs) h l = absurd h
clauses_past work (suc k) (n ∷ ns) [] h l = absurd h
clauses_past work (suc k) (n ∷ ns) (c ∷ cs) h l = clauses_past work k ns cs h.1 (omega arith)

-- ---- the names of fields and of macros

pub field_names_are : (work : Work) (fs : List FieldShape) (ms : List (ModelField Identifier)) → AllMatch (IsField work) fs ms → AllMatch (IsName work) (map (λ f. f.name) fs) (map (λ f. f.field) ms)
field_names_are work [] [] h = tt
field_names_are work [] (m ∷ ms) h = absurd h
field_names_are work (f ∷ fs) [] h = absurd h
field_names_are work (f ∷ fs) (m ∷ ms) h = (h.0.field, field_names_are work fs ms h.1)

pub macro_names_are : (work : Work) (xs : List LocalMacro) (ps : List (Named Identifier × Tree Identifier)) → AllMatch (IsMacro work) xs ps → AllMatch (IsName work) (map (λ m. m.name) xs) (map (λ p. p.0) ps)
macro_names_are work [] [] h = tt
macro_names_are work [] (p ∷ ps) h = absurd h
macro_names_are work (x ∷ xs) [] h = absurd h
macro_names_are work (x ∷ xs) (p ∷ ps) h = (h.0.0, macro_names_are work xs ps h.1)

-- pairs as the model keeps them
abbrev pub rules_among : List (Named Identifier × Tree Identifier) → Trees Identifier
rules_among [] = no_trees
rules_among (p ∷ ps) = tree p.1 (rules_among ps)

pub macros_are : (work : Work) (xs : List LocalMacro) (ps : List (Named Identifier × Tree Identifier)) → AllMatch (IsMacro work) xs ps → AreMacros work xs (map (λ p. p.0) ps) (rules_among ps)
macros_are work [] [] h = tt
macros_are work [] (p ∷ ps) h = absurd h
macros_are work (x ∷ xs) [] h = absurd h
macros_are work (x ∷ xs) (p ∷ ps) h = (h.0, macros_are work xs ps h.1)

abbrev pub as_bindings : Result (List (Named Identifier × Tree Identifier)) (Fault Identifier) → Result (List (Named Identifier) × Trees Identifier) (Fault Identifier)
as_bindings s = s >> λ ps. Ok (map (λ p. p.0) ps, rules_among ps)

abbrev pub put_first : Named Identifier × Tree Identifier → List (Named Identifier) × Trees Identifier → Result (List (Named Identifier) × Trees Identifier) (Fault Identifier)
put_first b bs = Ok (b.0 ∷ bs.0, tree b.1 bs.1)

abbrev pub all_together : List (Named Identifier) × Trees Identifier → Trees Identifier → Result (LocalMacros Identifier) (Fault Identifier)
all_together bs body = Ok (record { names = bs.0; rules = bs.1; body = body })

binding_step : (a : Result (Named Identifier × Tree Identifier) (Fault Identifier)) (s : Result (List (Named Identifier × Tree Identifier)) (Fault Identifier)) →
    (a >> λ b. as_bindings s >> λ bs. put_first b bs) ≡ as_bindings (a >> λ b. s >> λ bs. Ok (b ∷ bs))
binding_step (Ok b) (Ok bs) = refl
binding_step (Ok b) (Err e) = refl
binding_step (Err e) s = refl

list_step : (l : Result (Trees Identifier × Tail Identifier) (Fault Identifier)) (s : Result (List (Named Identifier) × Trees Identifier) (Fault Identifier)) →
    (l >> λ p. syntax_of p.0 p.1 >> λ b. s >> λ bs. put_first b bs) ≡ ((l >> λ p. syntax_of p.0 p.1) >> λ b. s >> λ bs. put_first b bs)
list_step (Ok p) s = refl
list_step (Err e) s = refl

pub bindings_are : (ts : Trees Identifier) → bindings_of ts ≡ as_bindings (bindings_in ts)
bindings_are no_trees = refl
bindings_are (tree t ts) =
    list_step (list_of t) (bindings_of ts)
    ∙ ap (λ (s : Result (List (Named Identifier) × Trees Identifier) (Fault Identifier)). binding_of t >> λ b. s >> λ bs. put_first b bs) (bindings_are ts)
    ∙ binding_step (binding_of t) (bindings_in ts)

-- the list of macros is read to pairs first
list_of_bindings : (t : Tree Identifier) → (list_of t >> λ q. proper_of q.0 q.1 >> bindings_of) ≡ as_bindings (bindings_of_list t)
list_of_bindings (name i o) = refl
list_of_bindings (atom a o) = refl
list_of_bindings (list ts proper o) = bindings_are ts
list_of_bindings (list ts (dotted u) o) = refl
list_of_bindings (vector ts o) = refl

-- local macros, by the pairs
abbrev pub local_by : Tree Identifier → Trees Identifier → Tail Identifier → Result (LocalMacros Identifier) (Fault Identifier)
local_by t us tail =
    bindings_of_list t >> λ m. some_of us tail >> λ b. distinct same_ident (map (λ p. p.0) m) >> λ u. all_together (map (λ p. p.0) m, rules_among m) b

local_step : (q : Result (Trees Identifier × Tail Identifier) (Fault Identifier)) (us : Trees Identifier) (tail : Tail Identifier) →
    (q >> λ q. proper_of q.0 q.1 >> bindings_of >> λ bs. some_of us tail >> λ body. distinct same_ident bs.0 >> λ done. all_together bs body)
    ≡ ((q >> λ q. proper_of q.0 q.1 >> bindings_of) >> λ bs. some_of us tail >> λ body. distinct same_ident bs.0 >> λ done. all_together bs body)
local_step (Ok q) us tail = refl
local_step (Err e) us tail = refl

pair_step : (m : Result (List (Named Identifier × Tree Identifier)) (Fault Identifier)) (us : Trees Identifier) (tail : Tail Identifier) →
    (as_bindings m >> λ bs. some_of us tail >> λ body. distinct same_ident bs.0 >> λ done. all_together bs body)
    ≡ (m >> λ m. some_of us tail >> λ b. distinct same_ident (map (λ p. p.0) m) >> λ u. all_together (map (λ p. p.0) m, rules_among m) b)
pair_step (Ok m) us tail = refl
pair_step (Err e) us tail = refl

pub local_is : (t : Tree Identifier) (us : Trees Identifier) (tail : Tail Identifier) → local_macros_of same_ident (tree t us) tail ≡ local_by t us tail
local_is t us tail =
    local_step (list_of t) us tail
    ∙ ap (λ (x : Result (List (Named Identifier) × Trees Identifier) (Fault Identifier)). x >> λ bs. some_of us tail >> λ body. distinct same_ident bs.0 >> λ done. all_together bs body) (list_of_bindings t)
    ∙ pair_step (bindings_of_list t) us tail

-- ---- the fields that a constructor uses

pub not_false : (b : Bool) → not b ≡ false → b ≡ true
not_false true h = refl
not_false false h = absurd cc

module _ (n : Named Identifier) (k : Named Identifier × List (Named Identifier)) (p : Named Identifier) (fs : List (ModelField Identifier)) (u : Unit {0}) (h : distinct same_ident (map (λ f. f.field) fs) ≡ Ok u) where
  abbrev pub whole : RecordShape Identifier
  whole = record { type = n; constructor = k.0; used = k.1; predicate = p; fields = fs }

  after_names : record_with n k p fs ≡ (if all_among same_ident k.1 (map (λ f. f.field) fs) then Ok whole else Err BadForm)
  after_names = ap (λ (x : Result (Unit {0}) (Fault Identifier)). x >> λ done. if all_among same_ident k.1 (map (λ f. f.field) fs) then Ok whole else Err BadForm) h

  pub uses_all : all_among same_ident k.1 (map (λ f. f.field) fs) ≡ true → record_with n k p fs ≡ Ok whole
  uses_all e = after_names ∙ ap (λ (b : Bool). if b then Ok whole else Err BadForm) e

  pub uses_not : all_among same_ident k.1 (map (λ f. f.field) fs) ≡ false → record_with n k p fs ≡ Err BadForm
  uses_not e = after_names ∙ ap (λ (b : Bool). if b then Ok whole else Err BadForm) e
