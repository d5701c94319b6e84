-- Files that are fetched one after another.
use Rattle.std.proofs.Common.{◌≡◌, ◌≤◌, ◌<◌, ◌+◌, ℕ, List, [], ◌∷◌, ◌++◌, length, take, drop, get_or, append_assoc, append-nil, length-append, refl, ap, sym, ◌∙◌, subst, arith, Option, Some, None, Err, add-one, drop-cons, suc}
use Rattle.std.proofs.lemmas.List.{map-append, take-append-drop, take_more}
use Rattle.std.specs.List.{AllByRecursion}
use Rattle.std.specs.declared.vec.Vec.{Vec}
use Rattle.std.specs.declared.alloc.Global.{Global}
use Rattle.ls_outside.specs.Calls.{LastTakesNone}
use Rattle.ls_outside.specs.Files.{FetchTells, Gives}
use Rattle.ls_outside.specs.declared.files.Fetch.TheVariants as fetch
use Rattle.file_fetching.specs.FilesSeen.{AsksFor, FilesSeen}
use Rattle.file_fetching.specs.Fetching.{AreHeld, AsksCalmly, AsksFirst, FetchStopsAs, Fetches, FetchesAll, FetchingEndsAs, IsHeld, IsOver, ReadEach, bytes_in}
use Rattle.file_fetching.specs.declared.fetching.FetchStop.{FetchStop}
use Rattle.file_fetching.specs.declared.fetching.FetchStop.TheVariants.{Failed, Long, Memory}

abbrev Held : Type 0
Held = Option (List ℕ → Option (List ℕ))

-- ---- names that are asked

pub asks_none : (seen : FilesSeen) → AsksFor seen seen []
asks_none seen = record { asked = sym (append-nil seen.asked); held = refl }

pub asks_more : (old mid new : FilesSeen) (names more : List (List ℕ)) → AsksFor old mid names → AsksFor mid new more → AsksFor old new (names ++ more)
asks_more old mid new names more first second = record {
  asked = second.asked ∙ ap (λ (asked : List (List ℕ)). asked ++ more) first.asked ∙ append_assoc old.asked names more;
  held = second.held ∙ first.held;
}

-- ---- contents

all_push : (P : List ℕ → Type 0) (xs : List (List ℕ)) (x : List ℕ) → AllByRecursion P xs → P x → AllByRecursion P (xs ++ x ∷ [])
all_push P [] x all here = (here, tt)
all_push P (y ∷ ys) x all here = (all.0, all_push P ys x all.1 here)

none_held : (held : Held) → AreHeld held [] []
none_held None = refl
none_held (Some held) = refl

held_push : (held : Held) (names contents : List (List ℕ)) (name content : List ℕ) → AreHeld held names contents → IsHeld held name content
    → AreHeld held (names ++ name ∷ []) (contents ++ content ∷ [])
held_push None names contents name content are is = omega (arith, are, length-append contents (content ∷ []), length-append names (name ∷ []))
held_push (Some held) names contents name content are is =
    map-append held names (name ∷ [])
    ∙ (λ j. are j ++ is j ∷ [])
    ∙ sym (map-append (λ (c : List ℕ). Some c) contents (content ∷ []))

-- they are read one after another
read_push : (contents : List (List ℕ)) (content : List ℕ) (old mid new : List (List ℕ)) → ReadEach old mid contents → LastTakesNone mid new content → ReadEach old new (contents ++ content ∷ [])
read_push [] content old mid new all one = (new, subst (λ (from : List (List ℕ)). LastTakesNone from new content) all one, refl)
read_push (c ∷ cs) content old mid new all one = (all.0, all.1, read_push cs content all.0 mid new all.2 one)

pub fetched_none : (seen : FilesSeen) (max : ℕ) → FetchesAll seen seen [] max []
fetched_none seen max = record { asks = asks_none seen; no_fault = refl; reads = refl; within_limit = tt; are = none_held seen.held }

pub fetched_more : (old mid new : FilesSeen) (names contents : List (List ℕ)) (name content : List ℕ) (max : ℕ) → FetchesAll old mid names max contents → Fetches mid new name max content
    → FetchesAll old new (names ++ name ∷ []) max (contents ++ content ∷ [])
fetched_more old mid new names contents name content max all one = record {
  asks = asks_more old mid new names (name ∷ []) all.asks one.asks;
  no_fault = one.no_fault ∙ all.no_fault;
  reads = read_push contents content old.reads mid.reads new.reads all.reads one.reads;
  within_limit = all_push (λ c. length c ≤ max) contents content all.within_limit one.within_limit;
  are = held_push old.held names contents name content all.are (let P : Held → Type 0 = λ held. IsHeld held name content in subst P all.asks.held one.is);
}

-- ---- one fetch

given_is : (o : Option (List ℕ)) (max : ℕ) (content : Vec ℕ Global) → Gives o max (fetch.Bytes content) → o ≡ Some content.items
given_is None max content h = absurd h
given_is (Some held) max content h = ap (λ (c : List ℕ). Some c) (sym h)

pub is_held : (held : Held) (name : List ℕ) (max : ℕ) (content : Vec ℕ Global) → FetchTells held name max (fetch.Bytes content) → IsHeld held name content.items
is_held None name max content h = tt
is_held (Some held) name max content h = given_is (held name) max content h

over_by : (o : Option (List ℕ)) (max : ℕ) → Gives o max fetch.Long → (content : List ℕ) × (o ≡ Some content) × (max < length content)
over_by None max h = absurd h
over_by (Some held) max h = (held, refl, h)

pub is_over : (held : Held) (name : List ℕ) (max : ℕ) → FetchTells held name max fetch.Long → IsOver held name max
is_over None name max h = tt
is_over (Some held) name max h = over_by (held name) max h

-- ---- several fetches

-- the names are all of the names
pub fetched_all : (old new : FilesSeen) (front names contents : List (List ℕ)) (max : ℕ) → front ≡ names → FetchesAll old new front max contents → FetchesAll old new names max contents
fetched_all old new front names contents max whole all = let P : List (List ℕ) → Type 0 = λ ns. FetchesAll old new ns max contents in subst P whole all

calmly_more : (old mid new : FilesSeen) (names contents : List (List ℕ)) (name : List ℕ) (max : ℕ) → FetchesAll old mid names max contents → AsksCalmly mid new (name ∷ [])
    → AsksCalmly old new (names ++ name ∷ [])
calmly_more old mid new names contents name max all one = record {
  asks = asks_more old mid new names (name ∷ []) all.asks one.asks;
  no_fault = one.no_fault ∙ all.no_fault;
}

first_asked : (old new : FilesSeen) (names front later : List (List ℕ)) (name : List ℕ) → names ≡ front ++ name ∷ later → AsksCalmly old new (front ++ name ∷ []) → AsksFirst old new names
first_asked old new names front later name split asks = record {
  front = front ++ name ∷ [];
  later = later;
  split = split ∙ sym (append_assoc front (name ∷ []) later);
  asks = asks;
}

-- a fetch didn't give its content
pub stopped : (old mid new : FilesSeen) (names front later contents : List (List ℕ)) (name : List ℕ) (max : ℕ) (stop : FetchStop) → names ≡ front ++ name ∷ later
    → FetchesAll old mid front max contents → FetchStopsAs mid new name max stop → FetchingEndsAs old new names max (Err stop)
stopped old mid new names front later contents name max Long split all one =
    record { front = front; name = name; later = later; split = split; contents = contents; mid = mid; fetched = all; stops = one }
stopped old mid new names front later contents name max Failed split all one =
    record { front = front; name = name; later = later; split = split; contents = contents; mid = mid; fetched = all; stops = one }
stopped old mid new names front later contents name max Memory split all one =
    first_asked old new names front later name split (calmly_more old mid new front contents name max all one)

-- a content was fetched, and there was no room for it
pub no_room : (old mid new : FilesSeen) (names front later contents : List (List ℕ)) (name content : List ℕ) (max : ℕ) → names ≡ front ++ name ∷ later
    → FetchesAll old mid front max contents → Fetches mid new name max content → AsksFirst old new names
no_room old mid new names front later contents name content max split all one =
    first_asked old new names front later name split (calmly_more old mid new front contents name max all (record { asks = one.asks; no_fault = one.no_fault }))

-- ---- lists from a place on

pub split_here : (names : List (List ℕ)) (i : ℕ) (name none : List ℕ) → i < length names → name ≡ get_or names i none → names ≡ take i names ++ name ∷ drop (i + 1) names
split_here names i name none within is =
    sym (take-append-drop i names)
    ∙ ap (λ (rest : List (List ℕ)). take i names ++ rest) (rw add-one (drop-cons names i none within ∙ ap (λ (n : List ℕ). n ∷ drop (suc i) names) (sym is)))

pub take_here : (names : List (List ℕ)) (i : ℕ) (name none : List ℕ) → i < length names → name ≡ get_or names i none → take (i + 1) names ≡ take i names ++ name ∷ []
take_here names i name none within is = take_more names i none within ∙ ap (λ (n : List ℕ). take i names ++ n ∷ []) (sym is)

pub bytes_push : (contents : List (Vec ℕ Global)) (content : Vec ℕ Global) → bytes_in (contents ++ content ∷ []) ≡ bytes_in contents ++ content.items ∷ []
bytes_push contents content = map-append (λ (c : Vec ℕ Global). c.items) contents (content ∷ [])
