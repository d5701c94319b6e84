-- The walk from an identifier to what it means, by way of the uses that inserted it.
use Rattle.std.proofs.Common.{◌≡◌, ℕ, suc, ◌<◌, List, length, slice_get, Option, Some, None, refl, sym, ap, ◌∙◌, subst, arith}
use Rattle.std.specs.Prelude.{unwrap_or}
use Rattle.std.specs.Option.{option_or, option_map, option_map_or, option_and_then}
use Rattle.std.specs.FinMap.{get}
use Rattle.std.specs.Str.{bytes_eq}
use Rattle.std.proofs.lemmas.Option.{same_Some}
use Rattle.scheme_model.specs.Identifiers.{Number}
use Rattle.scheme_model.specs.Ident.{Ident as Identifier, Written, Inserted, same_ident}
use Rattle.scheme_model.specs.Meaning as model
use Rattle.scheme_model.specs.Meaning.{of_form}
use Rattle.scheme_model.specs.Scopes.{Chain, Uses, Own, found, given_or, local_or, beyond, means}
use Rattle.scheme_model.proofs.IdentLaws.{ident_told, ident_itself}
use Rattle.syntax_tree.specs.Names.{Names, AreToldApart}
use Rattle.syntax_tree.specs.Macros.{IsIdent}
use Rattle.syntax_tree.specs.Meant.{IsMeaning, IsGivenMeaning}
use Rattle.syntax_tree.specs.Numbered.{ident_of, number_of}
use Rattle.syntax_tree.specs.declared.meaning.Meaning.{Meaning}
use Rattle.syntax_tree.specs.declared.meaning.Meaning.TheVariants as code
use Rattle.syntax_tree.specs.declared.symbols.Ident.TheVariants as entry
use Rattle.syntax_tree.specs.declared.symbols.UseNo.{UseNo}
use Rattle.syntax_tree.proofs.Places.{none_some, get_within}
use Rattle.syntax_tree.proofs.InternLaws.{bytes_told, bytes_itself}
use Rattle.scope_env.specs.Environment.{Environment, IsSound}
use Rattle.scope_env.specs.Resolved.{number_in, symbol_in, local, own, resolved}
use Rattle.scope_env.specs.Standing.{bound_by, StandsFor, Gives, EnvFor}
use Rattle.scope_env.proofs.Places.{place_is}

-- ---- options

mapped_from : {A B : Type 0} (f : A → B) (o : Option A) (b : B) → option_map f o ≡ Some b → (a : A) × (o ≡ Some a) × (f a ≡ b)
mapped_from f None b h = none_some b h
mapped_from f (Some a) b h = (a, refl, same_Some (f a) b h)

mapped_none : {A B : Type 0} (f : A → B) (o : Option A) → option_map f o ≡ None → o ≡ None
mapped_none f None h = refl
mapped_none f (Some a) h = none_some (f a) (sym h)

-- ---- one step of the walk

module _ (names : Names) (env : Environment) where
  -- to resolve the first identifier is to resolve the second
  pub record Leads (from : Option ℕ) (i : Identifier) (to : Option ℕ) (j : Identifier) : Type 0 where
    pub value : resolved env names from i ≡ resolved env names to j
    pub meaning : (given : Own) (uses : Uses) (c : Chain) → EnvFor names env given uses → StandsFor names env from c →
        (d : Chain) × StandsFor names env to d × (means given uses c i ≡ means given uses d j)

  -- this is what an identifier means
  pub record Answers (from : Option ℕ) (i : Identifier) (m : Meaning) : Type 0 where
    pub value : resolved env names from i ≡ m
    pub meaning : (given : Own) (uses : Uses) (c : Chain) (unit form : ℕ) → EnvFor names env given uses → StandsFor names env from c →
        IsMeaning names unit form m (of_form unit form (means given uses c i))

  pub here : (from : Option ℕ) (i : Identifier) → Leads from i from i
  here from i = record { value = refl; meaning = λ given uses c is stands. (c, stands, refl) }

  -- a step more
  pub on : (a b d : Option ℕ) (i j k : Identifier) → Leads a i b j → Leads b j d k → Leads a i d k
  on a b d i j k p q = record {
    value = p.value ∙ q.value;
    meaning = λ given uses c is stands.
        let first = p.meaning given uses c is stands in
        let second = q.meaning given uses first.0 is first.1 in
        (second.0, second.1, first.2 ∙ second.2);
  }

  pub ends : (a b : Option ℕ) (i j : Identifier) (m : Meaning) → Leads a i b j → Answers b j m → Answers a i m
  ends a b i j m p q = record {
    value = p.value ∙ q.value;
    meaning = λ given uses c unit form is stands.
        let first = p.meaning given uses c is stands in
        subst (IsMeaning names unit form m) (ap (of_form unit form) (sym first.2)) (q.meaning given uses first.0 unit form is first.1);
  }

  -- ---- what stands for what, at one number

  module _ (n : ℕ) (i : Identifier) (at : IsIdent names n i) where
    bound_here : (c : Chain) → bound_by names c n ≡ option_map (λ (v : Number). code.Local v.count) (found c i)
    bound_here c = ap (λ (o : Option Identifier). option_map (λ (v : Number). code.Local v.count) (option_and_then (found c) o)) at

    pub not_found : (from : Option ℕ) (c : Chain) → StandsFor names env from c → local env from n ≡ None → found c i ≡ None
    not_found from c stands none = mapped_none (λ (v : Number). code.Local v.count) (found c i) (sym (bound_here c) ∙ sym (stands n) ∙ none)

    pub found_there : (from : Option ℕ) (c : Chain) (m : Meaning) → StandsFor names env from c → local env from n ≡ Some m → (v : Number) × (found c i ≡ Some v) × (code.Local v.count ≡ m)
    found_there from c m stands some = mapped_from (λ (v : Number). code.Local v.count) (found c i) m (sym (bound_here c) ∙ sym (stands n) ∙ some)

    given_here : (given : Own) (uses : Uses) (u : ℕ) (o : Option Meaning) → EnvFor names env given uses → own env u n ≡ o → Gives names o (given u i)
    given_here given uses u o is e =
        subst (λ (p : Option Meaning). Gives names p (given u i)) e
        (subst (λ (p : Option Identifier). Gives names (own env u n) (option_and_then (given u) p)) at (is.own u n))

  gives_none : (o : Option model.Meaning) → Gives names None o → o ≡ None
  gives_none None h = refl
  gives_none (Some m) h = absurd h

  gives_some : (m : Meaning) (o : Option model.Meaning) → Gives names (Some m) o → (d : model.Meaning) × (o ≡ Some d) × IsGivenMeaning names m d
  gives_some m None h = absurd h
  gives_some m (Some d) h = (d, refl, h)

  -- what a unit gives is no local, so the form makes no difference
  given_of_form : (unit form : ℕ) (m : Meaning) (d : model.Meaning) → IsGivenMeaning names m d → IsMeaning names unit form m (of_form unit form d)
  given_of_form unit form (code.Local n) d h = ap (of_form unit form) (h unit form)
  given_of_form unit form (code.Global u n) (model.Local v) h = h unit form
  given_of_form unit form (code.Global u n) (model.Global w i) h = h unit form
  given_of_form unit form (code.Global u n) (model.Standard s) h = h unit form
  given_of_form unit form (code.Global u n) (model.Free s) h = h unit form
  given_of_form unit form (code.Standard n) (model.Local v) h = h unit form
  given_of_form unit form (code.Standard n) (model.Global w i) h = h unit form
  given_of_form unit form (code.Standard n) (model.Standard s) h = h unit form
  given_of_form unit form (code.Standard n) (model.Free s) h = h unit form
  given_of_form unit form (code.Free n) (model.Local v) h = h unit form
  given_of_form unit form (code.Free n) (model.Global w i) h = h unit form
  given_of_form unit form (code.Free n) (model.Standard s) h = h unit form
  given_of_form unit form (code.Free n) (model.Free s) h = h unit form

  -- ---- the answers

  module _ (apart : AreToldApart names.idents) where
    pub number_is : (n : ℕ) (i : Identifier) → IsIdent names n i → number_in names i ≡ n
    number_is n i at = place_is same_ident i (ident_told i) (ident_itself i) names.idents apart n at

    -- nothing binds what a use inserted: it means what it means in the scope of the use
    pub inserted_on : (n : ℕ) (from : Option ℕ) (i : Identifier) (k : Number) → IsIdent names n (Inserted i k) → local env from n ≡ None → own env k.unit n ≡ None → Leads from (Inserted i k) (get env.uses k) i
    inserted_on n from i k at no_local no_own = record {
      value =
          ap (λ (m : ℕ). unwrap_or (option_or (local env from m) (own env k.unit m)) (resolved env names (get env.uses k) i)) (number_is n (Inserted i k) at)
          ∙ (λ j. unwrap_or (option_or (no_local j) (no_own j)) (resolved env names (get env.uses k) i));
      meaning = λ given uses c is stands.
          let unbound = not_found n (Inserted i k) at from c stands no_local in
          let not_given = gives_none (given k.unit (Inserted i k)) (given_here n (Inserted i k) at given uses k.unit None is no_own) in
          (uses k, is.uses k, λ j. local_or (unbound j) (given_or (not_given j) (local_or (found (uses k) i) (beyond given uses i))));
    }

    local_value : (n : ℕ) (from : Option ℕ) (i : Identifier) (m : Meaning) → IsIdent names n i → local env from n ≡ Some m → resolved env names from i ≡ m
    local_value n from (Written u s) m at some =
        ap (λ (x : ℕ). unwrap_or (option_or (local env from x) (own env u x)) (code.Free (symbol_in names s))) (number_is n (Written u s) at)
        ∙ ap (λ (o : Option Meaning). unwrap_or (option_or o (own env u n)) (code.Free (symbol_in names s))) some
    local_value n from (Inserted i k) m at some =
        ap (λ (x : ℕ). unwrap_or (option_or (local env from x) (own env k.unit x)) (resolved env names (get env.uses k) i)) (number_is n (Inserted i k) at)
        ∙ ap (λ (o : Option Meaning). unwrap_or (option_or o (own env k.unit n)) (resolved env names (get env.uses k) i)) some

    -- a local scope binds it
    pub local_answers : (n : ℕ) (from : Option ℕ) (i : Identifier) (m : Meaning) → IsIdent names n i → local env from n ≡ Some m → Answers from i m
    local_answers n from i m at some = record {
      value = local_value n from i m at some;
      meaning = λ given uses c unit form is stands.
          let v = found_there n i at from c m stands some in
          subst (λ (x : Meaning). IsMeaning names unit form x (of_form unit form (means given uses c i))) v.2 (ap (λ (o : Option Number). of_form unit form (local_or o (beyond given uses i))) v.1);
    }

    -- the own scope of the unit of the use binds it
    pub inserted_answers : (n : ℕ) (from : Option ℕ) (i : Identifier) (k : Number) (m : Meaning) → IsIdent names n (Inserted i k) → local env from n ≡ None → own env k.unit n ≡ Some m → Answers from (Inserted i k) m
    inserted_answers n from i k m at no_local some = record {
      value =
          ap (λ (x : ℕ). unwrap_or (option_or (local env from x) (own env k.unit x)) (resolved env names (get env.uses k) i)) (number_is n (Inserted i k) at)
          ∙ (λ j. unwrap_or (option_or (no_local j) (some j)) (resolved env names (get env.uses k) i));
      meaning = λ given uses c unit form is stands.
          let unbound = not_found n (Inserted i k) at from c stands no_local in
          let d = gives_some m (given k.unit (Inserted i k)) (given_here n (Inserted i k) at given uses k.unit (Some m) is some) in
          subst (λ (x : model.Meaning). IsMeaning names unit form m (of_form unit form x)) (sym (λ j. local_or (unbound j) (given_or (d.1 j) (local_or (found (uses k) i) (beyond given uses i))))) (given_of_form unit form m d.0 d.2);
    }

    -- no local scope binds a written symbol: the own scope of its unit, or nothing
    written_by : (n : ℕ) (from : Option ℕ) (u symbol : ℕ) (s : List ℕ) (o : Option Meaning) → IsIdent names n (Written u s) → slice_get names.symbols symbol ≡ Some s → symbol_in names s ≡ symbol → local env from n ≡ None → own env u n ≡ o → Answers from (Written u s) (unwrap_or o (code.Free symbol))
    written_by n from u symbol s None at spelt place no_local is_own = record {
      value =
          ap (λ (x : ℕ). unwrap_or (option_or (local env from x) (own env u x)) (code.Free (symbol_in names s))) (number_is n (Written u s) at)
          ∙ (λ j. unwrap_or (option_or (no_local j) (is_own j)) (code.Free (place j)));
      meaning = λ given uses c unit form is stands.
          let unbound = not_found n (Written u s) at from c stands no_local in
          let not_given = gives_none (given u (Written u s)) (given_here n (Written u s) at given uses u None is is_own) in
          subst (λ (x : model.Meaning). IsMeaning names unit form (code.Free symbol) (of_form unit form x)) (sym (λ j. local_or (unbound j) (given_or (not_given j) (model.Free s)))) spelt;
    }
    written_by n from u symbol s (Some m) at spelt place no_local is_own = record {
      value =
          ap (λ (x : ℕ). unwrap_or (option_or (local env from x) (own env u x)) (code.Free (symbol_in names s))) (number_is n (Written u s) at)
          ∙ (λ j. unwrap_or (option_or (no_local j) (is_own j)) (code.Free (symbol_in names s)));
      meaning = λ given uses c unit form is stands.
          let unbound = not_found n (Written u s) at from c stands no_local in
          let d = gives_some m (given u (Written u s)) (given_here n (Written u s) at given uses u (Some m) is is_own) in
          subst (λ (x : model.Meaning). IsMeaning names unit form m (of_form unit form x)) (sym (λ j. local_or (unbound j) (given_or (d.1 j) (model.Free s)))) (given_of_form unit form m d.0 d.2);
    }

    pub written_answers : AreToldApart names.symbols → (n : ℕ) (from : Option ℕ) (u symbol : ℕ) (s : List ℕ) → IsIdent names n (Written u s) → slice_get names.symbols symbol ≡ Some s → local env from n ≡ None → Answers from (Written u s) (unwrap_or (own env u n) (code.Free symbol))
    written_answers symbols n from u symbol s at spelt no_local =
        written_by n from u symbol s (own env u n) at spelt (place_is bytes_eq s (bytes_told s) (bytes_itself s) names.symbols symbols symbol spelt) no_local refl

  -- ---- the loop

  -- from this identifier in this scope the walk has come so far
  pub record Walked (from : Option ℕ) (start : ℕ) (scope : Option ℕ) (n : ℕ) : Type 0 where
    pub within : n < length names.idents
    pub there : (k : ℕ) → scope ≡ Some k → k < length env.scopes
    pub leads : (i : Identifier) → IsIdent names start i → (j : Identifier) × IsIdent names n j × Leads from i scope j

-- before the walk
pub set_out : (names : Names) (env : Environment) (start scope : ℕ) → start < length names.idents → scope < length env.scopes → Walked names env (Some scope) start (Some scope) start
set_out names env start scope within there = record {
  within = within;
  there = λ k same. subst (λ (x : ℕ). x < length env.scopes) (same_Some scope k same) there;
  leads = λ i at. (i, at, here names env (Some scope) i);
}

-- how many uses have inserted an identifier
abbrev depth : Identifier → ℕ
depth (Written u s) = 0
depth (Inserted i k) = suc (depth i)

abbrev pub depth_at : Names → ℕ → ℕ
depth_at names n = option_map_or depth (slice_get names.idents n) 0

-- ---- entries of the table

pub written_is : (names : Names) (n u symbol : ℕ) (i : Identifier) → IsIdent names n i → slice_get names.idents n ≡ ident_of names (entry.Written u symbol) → (s : List ℕ) × (slice_get names.symbols symbol ≡ Some s) × (i ≡ Written u s)
written_is names n u symbol i at is =
    let s = mapped_from (Written u) (slice_get names.symbols symbol) i (sym is ∙ at) in
    (s.0, s.1, sym s.2)

pub inserted_is : (names : Names) (n id : ℕ) (k : UseNo) (i : Identifier) → IsIdent names n i → slice_get names.idents n ≡ ident_of names (entry.Inserted id k) → (j : Identifier) × IsIdent names id j × (i ≡ Inserted j (number_of k))
inserted_is names n id k i at is =
    let j = mapped_from (λ (x : Identifier). Inserted x (number_of k)) (slice_get names.idents id) i (sym is ∙ at) in
    (j.0, j.1, sym j.2)

-- the identifier inside an inserted one is less deep
pub less_deep : (names : Names) (n id : ℕ) (k : UseNo) → n < length names.idents → slice_get names.idents n ≡ ident_of names (entry.Inserted id k) → depth_at names id < depth_at names n
less_deep names n id k within is =
    let i = get_within names.idents n within in
    let j = inserted_is names n id k i.0 i.1 is in
    let outer : depth_at names n ≡ suc (depth j.0) = ap (λ (o : Option Identifier). option_map_or depth o 0) (i.1 ∙ ap Some j.2) in
    let inner : depth_at names id ≡ depth j.0 = ap (λ (o : Option Identifier). option_map_or depth o 0) j.1 in
    omega arith

-- ---- the walk of the loop

module _ (names : Names) (env : Environment) (from : Option ℕ) (start : ℕ) where
  -- what the identifier means to which the walk came
  pub finished : (scope : Option ℕ) (n : ℕ) (m : Meaning) → Walked names env from start scope n → ((j : Identifier) → IsIdent names n j → Answers names env scope j m) → (i : Identifier) → IsIdent names start i → Answers names env from i m
  finished scope n m walked answers i at =
      let l = walked.leads i at in
      ends names env from scope i l.0 m l.2 (answers l.0 l.1)

  module _ (apart : AreToldApart names.idents) (scope : Option ℕ) (n : ℕ) (walked : Walked names env from start scope n) where
    pub finished_local : (m : Meaning) → Some m ≡ local env scope n → (i : Identifier) → IsIdent names start i → Answers names env from i m
    finished_local m some = finished scope n m walked (λ j at. local_answers names env apart n scope j m at (sym some))

    pub finished_written : AreToldApart names.symbols → (u symbol : ℕ) (o : Option Meaning) (m : Meaning) → slice_get names.idents n ≡ ident_of names (entry.Written u symbol) → None ≡ local env scope n → o ≡ own env u n → m ≡ unwrap_or o (code.Free symbol) →
        (i : Identifier) → IsIdent names start i → Answers names env from i m
    finished_written symbols u symbol o m is none owned result = finished scope n m walked (λ j at.
        let w = written_is names n u symbol j at is in
        let answers = written_answers names env apart symbols n scope u symbol w.0 (subst (λ (x : Identifier). IsIdent names n x) w.2 at) w.1 (sym none) in
        subst (λ (x : Identifier). Answers names env scope x m) (sym w.2)
        (subst (λ (x : Meaning). Answers names env scope (Written u w.0) x) (ap (λ (x : Option Meaning). unwrap_or x (code.Free symbol)) (sym owned) ∙ sym result) answers))

    module _ (id : ℕ) (k : UseNo) (is : slice_get names.idents n ≡ ident_of names (entry.Inserted id k)) (none : None ≡ local env scope n) where
      pub finished_inserted : (m : Meaning) → Some m ≡ own env k.unit n → (i : Identifier) → IsIdent names start i → Answers names env from i m
      finished_inserted m some = finished scope n m walked (λ j at.
          let w = inserted_is names n id k j at is in
          subst (λ (x : Identifier). Answers names env scope x m) (sym w.2)
          (inserted_answers names env apart n scope w.0 (number_of k) m (subst (λ (x : Identifier). IsIdent names n x) w.2 at) (sym none) (sym some)))

      -- on to the identifier inside, in the scope of the use
      pub walked_on : IsSound env → id < length names.idents → None ≡ own env k.unit n → (next : Option ℕ) → get env.uses (number_of k) ≡ next → Walked names env from start next id
      walked_on sound within no_own next of_use = record {
        within = within;
        there = λ m to. sound.uses (number_of k) m (of_use ∙ to);
        leads = λ i at.
            let l = walked.leads i at in
            let w = inserted_is names n id k l.0 l.1 is in
            let first : Leads names env from i scope (Inserted w.0 (number_of k)) = subst (λ (x : Identifier). Leads names env from i scope x) w.2 l.2 in
            let second = inserted_on names env apart n scope w.0 (number_of k) (subst (λ (x : Identifier). IsIdent names n x) w.2 l.1) (sym none) (sym no_own) in
            (w.0, w.1, subst (λ (o : Option ℕ). Leads names env from i o w.0) of_use (on names env from scope (get env.uses (number_of k)) i (Inserted w.0 (number_of k)) w.0 first second));
      }
