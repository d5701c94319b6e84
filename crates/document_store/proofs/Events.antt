-- What events make of the texts.
use Rattle.std.proofs.Common.{◌≡◌, ◌≢◌, Result, ◌≤◌, ◌+◌, ℕ, ℤ, not, ◌||◌, nat_lt, length, arith, List, Option, Some, None, is_some, cond, Bool, true, false, refl, sym, ap, ◌∙◌}
use Rattle.std.specs.Ordering.{nat_cmp, eq_by_cmp, is_eq}
use Rattle.std.specs.declared.cmp.Ordering.{Ordering}
use Rattle.std.specs.declared.cmp.Ordering.TheVariants.{Less, Equal, Greater}
use Rattle.std.specs.Cmp.Lexicographic.{slice_cmp, nat_list_cmp_total}
use Rattle.std.specs.FinMap.{get, insert, remove, get-remove, get-insert, get_tied, same_map, slice_cmp-IsAntisymmetric, nat_cmp-IsAntisymmetric}
use Rattle.std.proofs.lemmas.Bool.{ltb-true, le-ltb}
use Rattle.ls_base.specs.Limits.{max_documents, max_text}
use Rattle.document_store.specs.declared.faults.StoreFault.{StoreFault}
use Rattle.document_store.specs.declared.faults.StoreFault.TheVariants as fault
use Rattle.document_store.specs.Texts.{Texts, Document, Refusal, NotOpen, BadRange, TooLong, TooMany, added, closed, changed_to, has_room, is_open, is_long}
use Rattle.document_store.specs.Faults.{EditFails, Refused}

nothing : {X : Type 0} (o : Option X) → is_some o ≡ false → o ≡ None
nothing None e = refl
nothing (Some x) e = cc e

equal : (r : Ordering) → is_eq r ≡ true → r ≡ Equal
equal Less e = cc e
equal Equal e = refl
equal Greater e = cc e

taken : {X : Type 0} (b : Bool) (o : Option X) → (b ≡ true → o ≡ None) → cond b None o ≡ o
taken true o h = sym (h refl)
taken false o h = refl

-- to close a document that isn't open changes nothing
pub remove_absent : (texts : Texts) (uri : List ℕ) → is_open texts uri ≡ false → remove texts uri ≡ texts
remove_absent texts uri absent = same_map nat_list_cmp_total (slice_cmp-IsAntisymmetric nat_cmp-IsAntisymmetric) _ _ (λ q.
    get-remove nat_list_cmp_total texts uri q
    ∙ taken (eq_by_cmp (slice_cmp nat_cmp) q uri) (get texts q) (λ same. sym (get_tied nat_list_cmp_total texts q uri (equal (slice_cmp nat_cmp q uri) same)) ∙ nothing (get texts uri) absent))

-- how closing ends
pub closes : (old new : Texts) (uri : List ℕ) (b : Bool) → b ≡ is_open old uri → new ≡ remove old uri → closed old uri ≡ (new, cond b None (Some NotOpen))
closes old new uri true there gone = ap (λ b. cond b (remove old uri, None) (old, Some NotOpen)) (sym there) ∙ ap (λ texts. (texts, None)) (sym gone)
closes old new uri false there gone =
    ap (λ b. cond b (remove old uri, None) (old, Some NotOpen)) (sym there) ∙ ap (λ texts. (texts, Some NotOpen)) (sym (gone ∙ remove_absent old uri (sym there)))

-- how adding ends where it isn't refused
pub adds : (old : Texts) (uri : List ℕ) (version : ℤ) (text : List ℕ) → has_room old uri ≡ true → length text ≤ max_text → added old uri version text ≡ (insert old uri (version, text), None)
adds old uri version text room short =
    let not_long : is_long text ≡ false = le-ltb max_text (length text) short in
    ap (λ b. cond (not b) (old, Some TooMany) (cond (is_long text) (old, Some TooLong) (insert old uri (version, text), None))) room
    ∙ ap (λ b. cond b (old, Some TooLong) (insert old uri (version, text), None)) not_long

-- how many entries are there then
pub still_few : (was now : ℕ) (there : Bool) → now ≡ was + cond there 0 1 → was ≤ max_documents → (there || nat_lt was max_documents) ≡ true → now ≤ max_documents
still_few was now true e few room = omega arith
still_few was now false e few room = omega (arith, ltb-true was max_documents room)

-- what a fault of a change leaves
abbrev pub left_after : StoreFault → Texts → List ℕ → Texts
left_after fault.Memory old uri = old
left_after fault.NotOpen old uri = old
left_after fault.BadRange old uri = old
left_after fault.TooLong old uri = remove old uri
left_after fault.TooMany old uri = old

-- it is what the definition leaves
pub change_refused : (f : StoreFault) (old new : Texts) (uri : List ℕ) (version : ℤ) (edit : Result (List ℕ) Refusal) → EditFails f edit → new ≡ left_after f old uri → Refused f old new (changed_to old uri version edit)
change_refused fault.Memory old new uri version edit fails left = left
change_refused fault.NotOpen old new uri version edit fails left = ap (changed_to old uri version) fails ∙ ap (λ (m : Texts). (m, Some NotOpen)) (sym left)
change_refused fault.BadRange old new uri version edit fails left = ap (changed_to old uri version) fails ∙ ap (λ (m : Texts). (m, Some BadRange)) (sym left)
change_refused fault.TooLong old new uri version edit fails left = ap (changed_to old uri version) fails ∙ ap (λ (m : Texts). (m, Some TooLong)) (sym left)
change_refused fault.TooMany old new uri version edit fails left = ap (changed_to old uri version) fails ∙ ap (λ (m : Texts). (m, Some TooMany)) (sym left)

-- all faults but one leave the texts
pub left_others : (f : StoreFault) (old : Texts) (uri : List ℕ) → f ≢ fault.TooLong → left_after f old uri ≡ old
left_others fault.Memory old uri other = refl
left_others fault.NotOpen old uri other = refl
left_others fault.BadRange old uri other = refl
left_others fault.TooLong old uri other = absurd (other refl)
left_others fault.TooMany old uri other = refl

given : {X : Type 0} (b : Bool) (o p : Option X) → (b ≡ true → o ≡ p) → cond b o p ≡ p
given true o p h = h refl
given false o p h = refl

-- to put a document that is there changes nothing
pub insert_same : (texts : Texts) (uri : List ℕ) (d : Document) → get texts uri ≡ Some d → insert texts uri d ≡ texts
insert_same texts uri d there = same_map nat_list_cmp_total (slice_cmp-IsAntisymmetric nat_cmp-IsAntisymmetric) _ _ (λ q.
    get-insert nat_list_cmp_total texts uri d q
    ∙ given (eq_by_cmp (slice_cmp nat_cmp) q uri) (Some d) (get texts q) (λ same. sym there ∙ get_tied nat_list_cmp_total texts q uri (equal (slice_cmp nat_cmp q uri) same)))
