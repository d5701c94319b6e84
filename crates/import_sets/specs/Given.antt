-- What an import set gives, over the entries of the code. Entries are gone through in their order, and what is put together is
-- told at the end.
use Rattle.std.specs.Prelude.{◌≡◌, ℕ, suc, List, [], ◌∷◌, ◌++◌, map, filter, reverse, Bool, true, false, not, ◌&&◌, ◌==◌, Option, Some, None, Result, Ok, Err, if◌then◌else◌}
use Rattle.std.specs.List.{list_any, flat_map}
use Rattle.std.specs.Cmp.Lexicographic.{slice_cmp}
use Rattle.std.specs.Option.{option_map, option_cmp}
use Rattle.std.specs.Ordering.{nat_cmp, ordering_then}
use Rattle.std.specs.declared.cmp.Ordering.{Ordering}
use Rattle.std.specs.Str.{bytes_eq}
use Rattle.scheme_model.specs.declared.Occ.{Occ}
use Rattle.scheme_model.specs.Entries.{same_occ, is_below}
use Rattle.syntax_tree.specs.declared.meaning.Meaning.{Meaning}
use Rattle.syntax_tree.specs.declared.meaning.Meaning.TheVariants.{Local, Global as GlobalMeaning, Standard, Free}
use Rattle.syntax_tree.specs.declared.units.Origin.{Origin}
use Rattle.syntax_tree.specs.declared.units.Entry.{Entry}
use Rattle.import_sets.specs.declared.set.SetName.{SetName}
use Rattle.import_sets.specs.declared.set.NamePair.{NamePair}
use Rattle.import_sets.specs.declared.set.ImportSet.{ImportSet, Library, Only', Except', Prefix', Rename', Bad}
use Rattle.import_sets.specs.declared.fault.ImportFault.{ImportFault}
use Rattle.import_sets.specs.declared.fault.ImportFault.TheVariants.{Memory, NotThere, Clash, BadSet}
use Rattle.import_sets.specs.declared.gather.Group.{Group}

-- ---- origins

abbrev pub same_place : Option Occ → Option Occ → Bool
same_place None None = true
same_place None (Some p) = false
same_place (Some o) None = false
same_place (Some o) (Some p) = same_occ o p

abbrev pub same_origin : Origin → Origin → Bool
same_origin o p = same_place o.occ p.occ && bytes_eq o.prefix p.prefix

abbrev pub has_origin : List Origin → Origin → Bool
has_origin os p = list_any (λ o. same_origin o p) os

-- an order of origins, which tells them all apart
abbrev pub occ_cmp : Occ → Occ → Ordering
occ_cmp o p = ordering_then (nat_cmp o.unit p.unit) (ordering_then (nat_cmp o.form p.form) (nat_cmp o.token p.token))

abbrev pub key_cmp : Option Occ × List ℕ → Option Occ × List ℕ → Ordering
key_cmp p q = ordering_then (option_cmp occ_cmp p.0 q.0) (slice_cmp nat_cmp p.1 q.1)

abbrev pub key_of : Origin → Option Occ × List ℕ
key_of o = (o.occ, o.prefix)

-- the origins of both, those of the second each once
abbrev pub both : List Origin → List Origin → List Origin
both os [] = os
both os (p ∷ ps) = both (if has_origin os p then os else os ++ p ∷ []) ps

-- ---- names

abbrev pub has_name : List Entry → List ℕ → Bool
has_name es s = list_any (λ e. bytes_eq e.name s) es

abbrev pub is_listed : List SetName → List ℕ → Bool
is_listed ns s = list_any (λ n. bytes_eq n.name s) ns

-- the first name that no entry has
abbrev pub missing : List SetName → List Entry → Option SetName
missing [] es = None
missing (n ∷ ns) es = if has_name es n.name then missing ns es else Some n

-- ---- modifiers

abbrev pub prefixed_origin : List ℕ → Origin → Origin
prefixed_origin t o = record { occ = o.occ; prefix = t ++ o.prefix }

abbrev pub prefixed : List ℕ → Entry → Entry
prefixed t e = record { name = t ++ e.name; meaning = e.meaning; origins = map (prefixed_origin t) e.origins }

abbrev pub place_origin : Option Occ → List Origin
place_origin None = []
place_origin (Some o) = record { occ = Some o; prefix = [] } ∷ []

abbrev pub renamed : Entry → SetName → Entry
renamed e n = record { name = n.name; meaning = e.meaning; origins = place_origin n.occ }

-- the names under which pairs give a name
abbrev pub given_under : List NamePair → List ℕ → List SetName
given_under ps s = map (λ (p : NamePair). p.to) (filter (λ (p : NamePair). bytes_eq s p.from.name) ps)

-- an entry under other names, or as it is where there are none
abbrev pub under : Entry → List SetName → List Entry
under e [] = e ∷ []
under e (n ∷ ns) = map (renamed e) (n ∷ ns)

abbrev pub rename_all : List NamePair → List Entry → List Entry
rename_all ps es = flat_map (λ e. under e (given_under ps e.name)) es

-- ---- names that stand twice

abbrev pub same_meaning : Meaning → Meaning → Bool
same_meaning (Local v) (Local w) = v == w
same_meaning (Local v) (GlobalMeaning w j) = false
same_meaning (Local v) (Standard t) = false
same_meaning (Local v) (Free t) = false
same_meaning (GlobalMeaning u i) (Local w) = false
same_meaning (GlobalMeaning u i) (GlobalMeaning w j) = u == w && i == j
same_meaning (GlobalMeaning u i) (Standard t) = false
same_meaning (GlobalMeaning u i) (Free t) = false
same_meaning (Standard s) (Local w) = false
same_meaning (Standard s) (GlobalMeaning v j) = false
same_meaning (Standard s) (Standard t) = s == t
same_meaning (Standard s) (Free t) = false
same_meaning (Free s) (Local w) = false
same_meaning (Free s) (GlobalMeaning v j) = false
same_meaning (Free s) (Standard t) = false
same_meaning (Free s) (Free t) = s == t

-- an entry, beside which further origins are kept
abbrev pub alone : Entry → Group
alone e = record { entry = e; more = [] }

abbrev pub with_more : Group → Entry → Group
with_more g e = record { entry = g.entry; more = g.more ++ e.origins }

abbrev pub in_front : Group → Option (List Group) → Option (List Group)
in_front g None = None
in_front g (Some gs) = Some (g ∷ gs)

-- an entry beside the one with its name, or at the end; nothing where the two mean different things
abbrev pub join : List Group → Entry → Option (List Group)
join [] e = Some (alone e ∷ [])
join (g ∷ gs) e =
    if bytes_eq g.entry.name e.name then (if same_meaning g.entry.meaning e.meaning then Some (with_more g e ∷ gs) else None)
    else in_front g (join gs e)

-- the place of a name among entries
abbrev pub place_of : List Group → List ℕ → Option ℕ
place_of [] s = None
place_of (g ∷ gs) s = if bytes_eq g.entry.name s then Some 0 else option_map suc (place_of gs s)

-- the entries so far, and the names that clashed, latest last
pub record Gathered : Type 0 where
  pub groups : List Group
  pub clashes : List (List ℕ)

abbrev pub taken : Gathered → Entry → Option (List Group) → Gathered
taken g e None = record { groups = g.groups; clashes = g.clashes ++ e.name ∷ [] }
taken g e (Some gs) = record { groups = gs; clashes = g.clashes }

abbrev pub take_in : Gathered → Entry → Gathered
take_in g e = taken g e (join g.groups e)

abbrev pub take_all : Gathered → List Entry → Gathered
take_all g [] = g
take_all g (e ∷ es) = take_all (take_in g e) es

abbrev pub nothing_yet : Gathered
nothing_yet = record { groups = []; clashes = [] }

abbrev pub finished : Group → Entry
finished g = record { name = g.entry.name; meaning = g.entry.meaning; origins = both g.entry.origins g.more }

-- the least of a name and others in byte order
abbrev pub least : List ℕ → List (List ℕ) → List ℕ
least s [] = s
least s (t ∷ ts) = least (if is_below t s then t else s) ts

-- the least of some names
abbrev pub least_of : List (List ℕ) → Option (List ℕ)
least_of [] = None
least_of (s ∷ ss) = Some (least s ss)

abbrev pub told : List Group → List (List ℕ) → Result (List Entry) ImportFault
told gs [] = Ok (map finished gs)
told gs (s ∷ ss) = Err (Clash (least s ss))

abbrev pub gathered : List Entry → Result (List Entry) ImportFault
gathered es = let g = take_all nothing_yet es in told g.groups (reverse g.clashes)

-- ---- sets

abbrev pub has_bad : ImportSet → Bool
has_bad (Library t) = false
has_bad (Only' p c ns) = has_bad c
has_bad (Except' p c ns) = has_bad c
has_bad (Prefix' p c t) = has_bad c
has_bad (Rename' p c ps) = has_bad c
has_bad Bad = true

-- whether no modifier lists identifiers
abbrev pub lists_none : ImportSet → Bool
lists_none (Library t) = true
lists_none (Only' p c ns) = false
lists_none (Except' p c ns) = false
lists_none (Prefix' p c t) = lists_none c
lists_none (Rename' p c ps) = false
lists_none Bad = true

infixl 10 ◌>>=◌
abbrev pub ◌>>=◌ : {A B : Type 0} → Result A ImportFault → (A → Result B ImportFault) → Result B ImportFault
(Ok a) >>= f = f a
(Err e) >>= f = Err e

-- the first name that isn't there is the fault
abbrev pub unless_missing : Option SetName → Result (List Entry) ImportFault → Result (List Entry) ImportFault
unless_missing None r = r
unless_missing (Some n) r = Err (NotThere n)

-- what an outermost modifier gives of the entries of the set inside
abbrev pub only : List SetName → List Entry → Result (List Entry) ImportFault
only ns es = unless_missing (missing ns es) (Ok (filter (λ e. is_listed ns e.name) es))

abbrev pub except : List SetName → List Entry → Result (List Entry) ImportFault
except ns es = unless_missing (missing ns es) (Ok (filter (λ e. not (is_listed ns e.name)) es))

abbrev pub rename : List NamePair → List Entry → Result (List Entry) ImportFault
rename ps es = unless_missing (missing (map (λ (p : NamePair). p.from) ps) es) (gathered (rename_all ps es))

abbrev pub given : ImportSet → List Entry → Result (List Entry) ImportFault
given (Library t) es = Ok es
given (Only' p c ns) es = given c es >>= only ns
given (Except' p c ns) es = given c es >>= except ns
given (Prefix' p c t) es = given c es >>= λ ds. Ok (map (prefixed t) ds)
given (Rename' p c ps) es = given c es >>= rename ps
given Bad es = Err BadSet

-- ---- what a call answers

abbrev pub SameFault : {A : Type 0} → ImportFault → Result A ImportFault → Type 0
SameFault Memory answer = Unit {0}
SameFault (NotThere n) answer = answer ≡ Err (NotThere n)
SameFault (Clash s) answer = answer ≡ Err (Clash s)
SameFault BadSet answer = answer ≡ Err BadSet

-- this answer, unless memory ran out
abbrev pub Same : {A : Type 0} → Result A ImportFault → Result A ImportFault → Type 0
Same (Ok a) answer = answer ≡ Ok a
Same (Err e) answer = SameFault e answer
