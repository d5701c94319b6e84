-- Which document a string means in another, from outside.
-- Written by tests/definitions/rows; each row is checked by computing it.
use Rattle.std.specs.Prelude.{◌≡◌, [], ◌∷◌, Some, None, codes, refl}
use Rattle.url.proofs.OnLiterals.{url_on_literals}
use Rattle.included_documents.specs.Meant.{meant}

pub beside : meant (((codes "file:///p/inc.scm")) ∷ ((codes "file:///p/lib.sld")) ∷ []) 1 (codes "inc.scm") ≡ (Some 0)
unfolding url_on_literals
beside = refl

pub above : meant (((codes "file:///p/inc.scm")) ∷ ((codes "file:///p/q/lib.sld")) ∷ []) 1 (codes "../inc.scm") ≡ (Some 0)
unfolding url_on_literals
above = refl

pub above-the-root : meant (((codes "file:///inc.scm")) ∷ ((codes "file:///p/lib.sld")) ∷ []) 1 (codes "../../../inc.scm") ≡ (Some 0)
unfolding url_on_literals
above-the-root = refl

pub dot : meant (((codes "file:///p/inc.scm")) ∷ ((codes "file:///p/lib.sld")) ∷ []) 1 (codes "./inc.scm") ≡ (Some 0)
unfolding url_on_literals
dot = refl

pub down-and-up : meant (((codes "file:///p/inc.scm")) ∷ ((codes "file:///p/lib.sld")) ∷ []) 1 (codes "q/../inc.scm") ≡ (Some 0)
unfolding url_on_literals
down-and-up = refl

pub whole-path : meant (((codes "file:///p/lib.sld")) ∷ ((codes "file:///q/inc.scm")) ∷ []) 0 (codes "/q/inc.scm") ≡ (Some 1)
unfolding url_on_literals
whole-path = refl

pub whole-path-same-name : meant (((codes "file:///p/inc.scm")) ∷ ((codes "file:///p/lib.sld")) ∷ []) 1 (codes "/inc.scm") ≡ None
unfolding url_on_literals
whole-path-same-name = refl

pub empty-string-is-the-document : meant (((codes "file:///p/lib.sld")) ∷ []) 0 [] ≡ (Some 0)
unfolding url_on_literals
empty-string-is-the-document = refl

pub space-in-the-string : meant (((codes "file:///p/a%20b.scm")) ∷ ((codes "file:///p/lib.sld")) ∷ []) 1 (codes "a b.scm") ≡ (Some 0)
unfolding url_on_literals
space-in-the-string = refl

pub pct20-in-the-string : meant (((codes "file:///p/a%20b.scm")) ∷ ((codes "file:///p/lib.sld")) ∷ []) 1 (codes "a%20b.scm") ≡ (Some 0)
unfolding url_on_literals
pct20-in-the-string = refl

pub space-in-the-uri : meant (((codes "file:///p/a b.scm")) ∷ ((codes "file:///p/lib.sld")) ∷ []) 1 (codes "a%20b.scm") ≡ (Some 0)
unfolding url_on_literals
space-in-the-uri = refl

pub two-uris-with-one-text : meant (((codes "file:///p/a b.scm")) ∷ ((codes "file:///p/a%20b.scm")) ∷ ((codes "file:///p/lib.sld")) ∷ []) 2 (codes "a b.scm") ≡ (Some 0)
unfolding url_on_literals
two-uris-with-one-text = refl

pub pct61-isnt-a : meant (((codes "file:///p/a.scm")) ∷ ((codes "file:///p/lib.sld")) ∷ []) 1 (codes "%61.scm") ≡ None
unfolding url_on_literals
pct61-isnt-a = refl

pub pct61-is-pct61 : meant (((codes "file:///p/%61.scm")) ∷ ((codes "file:///p/lib.sld")) ∷ []) 1 (codes "%61.scm") ≡ (Some 0)
unfolding url_on_literals
pct61-is-pct61 = refl

pub hash-begins-a-fragment : meant (((codes "file:///p/a%23b.scm")) ∷ ((codes "file:///p/lib.sld")) ∷ []) 1 (codes "a#b.scm") ≡ None
unfolding url_on_literals
hash-begins-a-fragment = refl

pub a-fragment-is-of-the-text : meant (((codes "file:///p/a.scm")) ∷ ((codes "file:///p/lib.sld")) ∷ []) 1 (codes "a.scm#b") ≡ None
unfolding url_on_literals
a-fragment-is-of-the-text = refl

pub a-uri-with-a-fragment : meant (((codes "file:///p/a.scm#b")) ∷ ((codes "file:///p/lib.sld")) ∷ []) 1 (codes "a.scm#b") ≡ (Some 0)
unfolding url_on_literals
a-uri-with-a-fragment = refl

pub pct23-in-the-string : meant (((codes "file:///p/a%23b.scm")) ∷ ((codes "file:///p/lib.sld")) ∷ []) 1 (codes "a%23b.scm") ≡ (Some 0)
unfolding url_on_literals
pct23-in-the-string = refl

pub query-begins-a-query : meant (((codes "file:///p/a%3Fb.scm")) ∷ ((codes "file:///p/lib.sld")) ∷ []) 1 (codes "a?b.scm") ≡ None
unfolding url_on_literals
query-begins-a-query = refl

pub pct3F-in-the-string : meant (((codes "file:///p/a%3Fb.scm")) ∷ ((codes "file:///p/lib.sld")) ∷ []) 1 (codes "a%3Fb.scm") ≡ (Some 0)
unfolding url_on_literals
pct3F-in-the-string = refl

pub pct3f-isnt-pct3F : meant (((codes "file:///p/a%3Fb.scm")) ∷ ((codes "file:///p/lib.sld")) ∷ []) 1 (codes "a%3fb.scm") ≡ None
unfolding url_on_literals
pct3f-isnt-pct3F = refl

pub whole-URL : meant (((codes "file:///p/lib.sld")) ∷ ((codes "file:///x/y.scm")) ∷ []) 0 (codes "file:///x/y.scm") ≡ (Some 1)
unfolding url_on_literals
whole-URL = refl

pub whole-URL-of-another-scheme : meant (((codes "file:///p/lib.sld")) ∷ ((codes "http://h/y.scm")) ∷ []) 0 (codes "http://h/y.scm") ≡ (Some 1)
unfolding url_on_literals
whole-URL-of-another-scheme = refl

pub whole-URL-that-is-spelled-otherwise : meant (((codes "file:///p/lib.sld")) ∷ ((codes "http://h/y.scm")) ∷ []) 0 (codes "HTTP://H:80/x/../y.scm") ≡ (Some 1)
unfolding url_on_literals
whole-URL-that-is-spelled-otherwise = refl

pub no-URL : meant (((codes "file:///p/lib.sld")) ∷ []) 0 (codes "http://") ≡ None
unfolding url_on_literals
no-URL = refl

pub scheme-in-capitals : meant (((codes "FILE:///p/inc.scm")) ∷ ((codes "file:///p/lib.sld")) ∷ []) 1 (codes "inc.scm") ≡ (Some 0)
unfolding url_on_literals
scheme-in-capitals = refl

pub local-host : meant (((codes "file:///p/lib.sld")) ∷ ((codes "file://localhost/p/inc.scm")) ∷ []) 0 (codes "inc.scm") ≡ (Some 1)
unfolding url_on_literals
local-host = refl

pub other-host : meant (((codes "file:///p/lib.sld")) ∷ ((codes "file://h/p/inc.scm")) ∷ []) 0 (codes "inc.scm") ≡ None
unfolding url_on_literals
other-host = refl

pub letters-beyond-ASCII : meant (((codes "file:///p/%C3%A9.scm")) ∷ ((codes "file:///p/lib.sld")) ∷ []) 1 (195 ∷ 169 ∷ 46 ∷ 115 ∷ 99 ∷ 109 ∷ []) ≡ (Some 0)
unfolding url_on_literals
letters-beyond-ASCII = refl

pub backslash : meant (((codes "file:///p/inc.scm")) ∷ ((codes "file:///p/q/lib.sld")) ∷ []) 1 (46 ∷ 46 ∷ 92 ∷ 105 ∷ 110 ∷ 99 ∷ 46 ∷ 115 ∷ 99 ∷ 109 ∷ []) ≡ (Some 0)
unfolding url_on_literals
backslash = refl

pub tab : meant (((codes "file:///p/inc.scm")) ∷ ((codes "file:///p/lib.sld")) ∷ []) 1 (105 ∷ 110 ∷ 9 ∷ 99 ∷ 46 ∷ 115 ∷ 99 ∷ 109 ∷ []) ≡ (Some 0)
unfolding url_on_literals
tab = refl

pub space-around : meant (((codes "file:///p/inc.scm")) ∷ ((codes "file:///p/lib.sld")) ∷ []) 1 (codes " inc.scm ") ≡ (Some 0)
unfolding url_on_literals
space-around = refl

pub web : meant (((codes "http://h/p/inc.scm")) ∷ ((codes "http://h/p/lib.sld")) ∷ []) 1 (codes "inc.scm") ≡ (Some 0)
unfolding url_on_literals
web = refl

pub web-with-a-query : meant (((codes "http://h/p/inc.scm")) ∷ ((codes "http://h/p/lib.sld?v=1")) ∷ []) 1 (codes "inc.scm") ≡ (Some 0)
unfolding url_on_literals
web-with-a-query = refl

pub drive-in-a-URL : meant (((codes "file:///C:/p/inc.scm")) ∷ ((codes "file:///C:/p/lib.sld")) ∷ []) 1 (codes "inc.scm") ≡ (Some 0)
unfolding url_on_literals
drive-in-a-URL = refl

pub drive-with-pct3A : meant (((codes "file:///c%3A/p/inc.scm")) ∷ ((codes "file:///c%3A/p/lib.sld")) ∷ []) 1 (codes "inc.scm") ≡ (Some 0)
unfolding url_on_literals
drive-with-pct3A = refl

pub drive-written-in-two-ways : meant (((codes "file:///C:/p/lib.sld")) ∷ ((codes "file:///c%3A/p/inc.scm")) ∷ []) 0 (codes "inc.scm") ≡ None
unfolding url_on_literals
drive-written-in-two-ways = refl

pub whole-path-keeps-the-drive : meant (((codes "file:///C:/inc.scm")) ∷ ((codes "file:///C:/p/lib.sld")) ∷ []) 1 (codes "/inc.scm") ≡ (Some 0)
unfolding url_on_literals
whole-path-keeps-the-drive = refl

pub above-the-drive : meant (((codes "file:///C:/inc.scm")) ∷ ((codes "file:///C:/p/lib.sld")) ∷ []) 1 (codes "../../inc.scm") ≡ (Some 0)
unfolding url_on_literals
above-the-drive = refl

pub drive-as-a-scheme : meant (((codes "C:/p/inc.scm")) ∷ ((codes "C:/p/lib.sld")) ∷ []) 1 (codes "inc.scm") ≡ (Some 0)
unfolding url_on_literals
drive-as-a-scheme = refl

pub drive-as-a-scheme-in-both-cases : meant (((codes "C:/p/lib.sld")) ∷ ((codes "c:/p/inc.scm")) ∷ []) 0 (codes "inc.scm") ≡ (Some 1)
unfolding url_on_literals
drive-as-a-scheme-in-both-cases = refl

pub drive-with-backslashes : meant (((67 ∷ 58 ∷ 92 ∷ 112 ∷ 92 ∷ 105 ∷ 110 ∷ 99 ∷ 46 ∷ 115 ∷ 99 ∷ 109 ∷ [])) ∷ ((67 ∷ 58 ∷ 92 ∷ 112 ∷ 92 ∷ 108 ∷ 105 ∷ 98 ∷ 46 ∷ 115 ∷ 108 ∷ 100 ∷ [])) ∷ []) 1 (codes "inc.scm") ≡ None
unfolding url_on_literals
drive-with-backslashes = refl

pub whole-URL-from-a-drive-with-backslashes : meant (((codes "C:/p/inc.scm")) ∷ ((67 ∷ 58 ∷ 92 ∷ 112 ∷ 92 ∷ 108 ∷ 105 ∷ 98 ∷ 46 ∷ 115 ∷ 108 ∷ 100 ∷ [])) ∷ []) 1 (codes "C:/p/inc.scm") ≡ (Some 0)
unfolding url_on_literals
whole-URL-from-a-drive-with-backslashes = refl

pub untitled : meant (((codes "untitled:Untitled-1")) ∷ ((codes "untitled:inc.scm")) ∷ []) 0 (codes "inc.scm") ≡ None
unfolding url_on_literals
untitled = refl

pub untitled-whole-URL : meant (((codes "untitled:Untitled-1")) ∷ ((codes "untitled:inc.scm")) ∷ []) 0 (codes "untitled:inc.scm") ≡ (Some 1)
unfolding url_on_literals
untitled-whole-URL = refl

pub untitled-other-scheme : meant (((codes "file:///p/inc.scm")) ∷ ((codes "untitled:Untitled-1")) ∷ []) 1 (codes "file:///p/inc.scm") ≡ (Some 0)
unfolding url_on_literals
untitled-other-scheme = refl

pub generated : meant (((codes "gen:/l0")) ∷ ((codes "gen:/l1")) ∷ []) 1 (codes "l0") ≡ (Some 0)
unfolding url_on_literals
generated = refl

pub names : meant (((codes "a.scm")) ∷ ((codes "b.scm")) ∷ []) 0 (codes "b.scm") ≡ (Some 1)
unfolding url_on_literals
names = refl

pub names-in-a-folder : meant (((codes "lib/a.scm")) ∷ ((codes "lib/b.scm")) ∷ []) 0 (codes "b.scm") ≡ (Some 1)
unfolding url_on_literals
names-in-a-folder = refl

pub names-in-folders : meant (((codes "lib/a.scm")) ∷ ((codes "lib/q/b.scm")) ∷ []) 0 (codes "q/b.scm") ≡ (Some 1)
unfolding url_on_literals
names-in-folders = refl

pub names-arent-shortened : meant (((codes "b.scm")) ∷ ((codes "lib/a.scm")) ∷ []) 1 (codes "../b.scm") ≡ None
unfolding url_on_literals
names-arent-shortened = refl

pub a-name-with-dots : meant (((codes "lib/../b.scm")) ∷ ((codes "lib/a.scm")) ∷ []) 1 (codes "../b.scm") ≡ (Some 0)
unfolding url_on_literals
a-name-with-dots = refl

pub a-dot-in-front : meant (((codes "a.scm")) ∷ ((codes "b.scm")) ∷ []) 0 (codes "./b.scm") ≡ None
unfolding url_on_literals
a-dot-in-front = refl

pub whole-path-from-a-name : meant (((codes "/x/b.scm")) ∷ ((codes "a.scm")) ∷ []) 1 (codes "/x/b.scm") ≡ (Some 0)
unfolding url_on_literals
whole-path-from-a-name = refl

pub whole-paths : meant (((codes "/x/a.scm")) ∷ ((codes "/x/b.scm")) ∷ []) 0 (codes "b.scm") ≡ (Some 1)
unfolding url_on_literals
whole-paths = refl

pub hash-in-names : meant (((codes "a.scm")) ∷ ((codes "b#c.scm")) ∷ []) 0 (codes "b#c.scm") ≡ (Some 1)
unfolding url_on_literals
hash-in-names = refl

pub pct20-in-names : meant (((codes "a.scm")) ∷ ((codes "b%20c.scm")) ∷ []) 0 (codes "b c.scm") ≡ None
unfolding url_on_literals
pct20-in-names = refl

pub a-URL-from-a-name : meant (((codes "a.scm")) ∷ ((codes "file:///p/b.scm")) ∷ []) 0 (codes "file:///p/b.scm") ≡ (Some 1)
unfolding url_on_literals
a-URL-from-a-name = refl

pub a-URL-from-a-name-in-a-folder : meant (((codes "file:///p/b.scm")) ∷ ((codes "lib/a.scm")) ∷ []) 1 (codes "file:///p/b.scm") ≡ None
unfolding url_on_literals
a-URL-from-a-name-in-a-folder = refl

pub empty-string-from-a-name : meant (((codes "a.scm")) ∷ []) 0 [] ≡ None
unfolding url_on_literals
empty-string-from-a-name = refl

pub empty-string-from-a-folder : meant (((codes "lib/")) ∷ ((codes "lib/a.scm")) ∷ []) 1 [] ≡ (Some 0)
unfolding url_on_literals
empty-string-from-a-folder = refl

pub a-name-from-a-URL : meant (((codes "file:///p/lib.sld")) ∷ ((codes "inc.scm")) ∷ []) 0 (codes "inc.scm") ≡ None
unfolding url_on_literals
a-name-from-a-URL = refl
