-- Entries by name, of one unit and of a program.
use Rattle.std.proofs.Common.{◌≡◌, ◌<◌, ◌+◌, ℕ, zero, suc, List, [], ◌∷◌, ◌++◌, length, take, get_or, Bool, true, false, cond, is_some, Option, Some, None, Bor, refl, sym, ap, ◌∙◌, subst, arith}
use Rattle.std.specs.Prelude.{◌==◌, if◌then◌else◌}
use Rattle.std.specs.Str.{bytes_eq}
use Rattle.std.specs.Option.{option_map}
use Rattle.std.proofs.lemmas.Bool.Decides.{nat_tests}
use Rattle.std.proofs.lemmas.List.{take_more}
use Rattle.scheme_model.specs.Entries.{Entry, entry_at}
use Rattle.scheme_model.specs.IncludedUnits.{Placed}
use Rattle.scheme_model.specs.Program.{Program, UnitResult, result_at}
use Rattle.scheme_model.specs.Requirements.{LibraryName}
use Rattle.scheme_model.specs.Spelling.{entries_at}
use Rattle.syntax_tree.specs.Names.{Names}
use Rattle.syntax_tree.proofs.InternLaws.{bytes_told}
use Rattle.syntax_tree.specs.Meant.{AreEntries}
use Rattle.syntax_tree.specs.declared.trees.Work.{Work}
use Rattle.syntax_tree.specs.declared.units.Entry as code_entry
use Rattle.core_tree.specs.Names.{AllMatch}
use Rattle.core_tree.specs.Units.{UnitsStand}
use Rattle.core_tree.specs.declared.units.Unit.{Unit as CodeUnit}
use Rattle.program_leaves.specs.Placed.{first_or}
use Rattle.program_leaves.specs.Entries.{ByName, now_of, named, entry_named, entry_found, HasEntries, IsEntryOf, Gives}
use Rattle.program_leaves.proofs.KeyLaws.{first_none, if_first}

named-append : (es fs : List code_entry.Entry) (s : List ℕ) → entry_named (es ++ fs) s ≡ first_or (entry_named es s) (entry_named fs s)
named-append [] fs s = refl
named-append (e ∷ es) fs s = ap (λ (q : Option code_entry.Entry). if bytes_eq e.name s then Some e else q) (named-append es fs s) ∙ if_first (bytes_eq e.name s) e (entry_named es s) (entry_named fs s)

pub named_more : (es : List code_entry.Entry) (i : ℕ) (e : code_entry.Entry) (s : List ℕ) (old new : Option code_entry.Entry) → i < length es → e ≡ get_or es i e → old ≡ entry_named (take i es) s →
    new ≡ first_or old (if bytes_eq e.name s then Some e else None) → new ≡ entry_named (take (i + 1) es) s
named_more es i e s old new lt is h n =
    n ∙ (λ j. first_or (h j) (if bytes_eq (is j).name s then Some (is j) else None)) ∙ sym (named-append (take i es) (get_or es i e ∷ []) s) ∙ ap (λ (q : List code_entry.Entry). entry_named q s) (sym (take_more es i e lt))

-- ---- of one unit

entries_law : (names : Names) (es : List code_entry.Entry) (ds : List Entry) (s : List ℕ) → AreEntries names es ds → IsEntryOf names (entry_named es s) (entry_at ds s)
entries_law names [] [] s h = tt
entries_law names [] (d ∷ ds) s h = absurd h
entries_law names (e ∷ es) [] s h = absurd h
entries_law names (e ∷ es) (d ∷ ds) s h = by_test (entries_law names es ds s h.1) (bytes_eq e.name s) (bytes_eq d.name s) (ap (λ (n : List ℕ). bytes_eq n s) h.0.name)
  where
    by_test : IsEntryOf names (entry_named es s) (entry_at ds s) → (a b : Bool) → a ≡ b → IsEntryOf names (if a then Some e else entry_named es s) (if b then Some d else entry_at ds s)
    by_test rest true true q = h.0
    by_test rest true false q = absurd cc
    by_test rest false true q = absurd cc
    by_test rest false false q = rest

-- ---- of a program

module _ (work : Work) (text : LibraryName → List ℕ) (uris : List (List ℕ)) (all : List Placed) (p : Program) where
  found_law : (place u : ℕ) (s : List ℕ) (ms : List ByName) (cs : List CodeUnit) (rs : List UnitResult) → AllMatch HasEntries ms cs → UnitsStand work text uris all p place cs rs →
      IsEntryOf work.symbols (entry_found ms u s) (entry_at (entries_at (result_at rs (place + u))) s)
  found_law place u s [] [] [] h g = tt
  found_law place u s [] [] (r ∷ rs) h g = absurd g
  found_law place u s [] (c ∷ cs) rs h g = absurd h
  found_law place u s (m ∷ ms) [] rs h g = absurd h
  found_law place u s (m ∷ ms) (c ∷ cs) [] h g = absurd g
  found_law place zero s (m ∷ ms) (c ∷ cs) (r ∷ rs) h g =
      let here : (r.unit.number == place + 0) ≡ true = let n = g.0.number in grind (arith, nat_tests) in
      let law = entries_law work.symbols c.entries r.entries s g.0.entries in
      let at = subst (λ (o : Option code_entry.Entry). IsEntryOf work.symbols o (entry_at r.entries s)) (sym (h.0 s)) law in
      subst (λ (q : Bool). IsEntryOf work.symbols (named m s) (entry_at (entries_at (if q then Some r else result_at rs (place + 0))) s)) (sym here) at
  found_law place (suc u) s (m ∷ ms) (c ∷ cs) (r ∷ rs) h g =
      let past : (r.unit.number == place + suc u) ≡ false = let n = g.0.number in grind (arith, nat_tests) in
      let next : suc place + u ≡ place + suc u = omega arith in
      let rest = found_law (suc place) u s ms cs rs h.1 g.1 in
      subst (λ (q : Bool). IsEntryOf work.symbols (entry_found ms u s) (entry_at (entries_at (if q then Some r else result_at rs (place + suc u))) s)) (sym past)
      (subst (λ (n : ℕ). IsEntryOf work.symbols (entry_found ms u s) (entry_at (entries_at (result_at rs n)) s)) next rest)

  pub gives_law : (ms : List ByName) (cs : List CodeUnit) → AllMatch HasEntries ms cs → UnitsStand work text uris all p 0 cs p.units → Gives work.symbols ms p.units
  gives_law ms cs h g = λ u s.
      let same : 0 + u ≡ u = omega arith in
      subst (λ (n : ℕ). IsEntryOf work.symbols (entry_found ms u s) (entry_at (entries_at (result_at p.units n)) s)) same (found_law 0 u s ms cs p.units h g)

-- ---- one more

pub put_law : {A : Type 0} (name s : List ℕ) (get : List ℕ → Option A) (v : A) → is_some (get name) ≡ false → cond (bytes_eq name s) (Some v) (get s) ≡ first_or (get s) (if bytes_eq name s then Some v else None)
put_law {A = A} name s get v none = by_test (bytes_eq name s) refl
  where
    gone : (o : Option A) → is_some o ≡ false → o ≡ None
    gone None h = refl
    gone (Some a) h = absurd cc

    by_test : (b : Bool) → bytes_eq name s ≡ b → cond b (Some v) (get s) ≡ first_or (get s) (if b then Some v else None)
    by_test false e = sym (first_none (get s))
    by_test true e =
        let none_here : get s ≡ None = ap get (sym (bytes_told name s e)) ∙ gone (get name) none in
        sym (ap (λ (o : Option A). first_or o (Some v)) none_here)

pub mapped_cond : (b : Bool) (e : Bor code_entry.Entry) (o : Option (Bor code_entry.Entry)) → option_map now_of (cond b (Some e) o) ≡ cond b (Some e.now) (option_map now_of o)
mapped_cond true e o = refl
mapped_cond false e o = refl

pub mapped_none : (o : Option (Bor code_entry.Entry)) → is_some o ≡ false → is_some (option_map now_of o) ≡ false
mapped_none None h = refl
mapped_none (Some e) h = h
