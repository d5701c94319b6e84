-- Documents that include one another, and their diagnostics with the codes 61, 66, 67, 68 and 105, from outside.
-- Written by tests/definitions/rows; each row is checked by computing it.
use Rattle.std.specs.Prelude.{◌≡◌, ℕ, false, List, [], ◌∷◌, Some, None, codes, refl}
use Rattle.scheme_model.specs.StandardNames.{base_names}
use Rattle.scheme_model.proofs.Shown.{ArrowRow}
use Rattle.scheme_model.proofs.ShownIncludes.{told_early}
use Rattle.std.specs.Char.{encode_utf8}
use Rattle.scheme_model.specs.StandardLibraries.{standard_libraries}
use Rattle.scheme_model.specs.Prelude.{prelude}
use Rattle.scheme_model.specs.Kinds as k
use Rattle.scheme_model.specs.Data as g
use Rattle.scheme_model.specs.Diagnostics.{Span, Bytes, Diagnostic}

abbrev s : ℕ → ℕ → Span
s start end = record { start = start; end = end }

abbrev p : ℕ → ℕ → ℕ → ℕ → g.Place
p first last start end = record { first = first; last = last; start = start; end = end }

abbrev b : ℕ → ℕ → ℕ → Bytes
b document start end = record { document = document; span = record { start = start; end = end } }

abbrev a : Bytes → Bytes → ArrowRow
a binder target = record { binder = binder; target = target }

abbrev q : ℕ → ℕ → ℕ → ℕ → List ℕ → Diagnostic
q document start end code text = record { document = document; start = start; end = end; code = code; text = text }

pub unreadable-part : told_early (((s 0 1) ∷ (s 2 3) ∷ (s 3 10) ∷ (s 11 18) ∷ (s 18 19) ∷ []) ∷ ([]) ∷ []) ((0, (codes "a.scm"), 0) ∷ (0, (codes "p.scm"), 1) ∷ (1, (codes "a.scm"), 0) ∷ (1, (codes "p.scm"), 1) ∷ []) ((Some (((g.atom (p 0 0 0 1) (g.spelled (k.Numeral (codes "1"))))) ∷ ((g.list (p 1 4 2 19) (g.part (g.atom (p 2 2 3 10) (g.spelled (k.Name (codes "include") false))) (g.part (g.atom (p 3 3 11 18) (g.spelled (k.Quoted (codes "p.scm")))) g.none)))) ∷ [])) ∷ (None) ∷ []) ≡ ((q 0 11 18 105 (codes "included text not usable p.scm")) ∷ [])
unfolding base_names standard_libraries prelude encode_utf8
unreadable-part = refl

pub part-behind-the-most-units : told_early (((s 0 1) ∷ (s 1 8) ∷ (s 9 16) ∷ (s 16 17) ∷ []) ∷ ((s 0 1) ∷ (s 1 15) ∷ (s 15 16) ∷ (s 16 17) ∷ (s 17 31) ∷ (s 31 32) ∷ (s 32 33) ∷ (s 33 47) ∷ (s 47 48) ∷ (s 48 49) ∷ (s 49 63) ∷ (s 63 64) ∷ (s 64 65) ∷ (s 65 79) ∷ (s 79 80) ∷ (s 80 81) ∷ (s 81 95) ∷ (s 95 96) ∷ (s 96 97) ∷ (s 97 111) ∷ (s 111 112) ∷ (s 112 113) ∷ (s 113 127) ∷ (s 127 128) ∷ (s 128 129) ∷ (s 129 143) ∷ (s 143 144) ∷ (s 144 145) ∷ (s 145 159) ∷ (s 159 160) ∷ (s 160 161) ∷ (s 161 175) ∷ (s 175 176) ∷ (s 176 177) ∷ (s 177 191) ∷ (s 191 192) ∷ (s 192 193) ∷ (s 193 207) ∷ (s 207 208) ∷ (s 208 209) ∷ (s 209 223) ∷ (s 223 224) ∷ (s 224 225) ∷ (s 225 239) ∷ (s 239 240) ∷ (s 240 241) ∷ (s 241 255) ∷ (s 255 256) ∷ (s 256 257) ∷ (s 257 271) ∷ (s 271 272) ∷ (s 272 273) ∷ (s 273 287) ∷ (s 287 288) ∷ (s 288 289) ∷ (s 289 303) ∷ (s 303 304) ∷ (s 304 305) ∷ (s 305 319) ∷ (s 319 320) ∷ (s 320 321) ∷ (s 321 335) ∷ (s 335 336) ∷ (s 336 337) ∷ (s 337 351) ∷ (s 351 352) ∷ (s 352 353) ∷ (s 353 367) ∷ (s 367 368) ∷ (s 368 369) ∷ (s 369 383) ∷ (s 383 384) ∷ (s 384 385) ∷ (s 385 399) ∷ (s 399 400) ∷ (s 400 401) ∷ (s 401 415) ∷ (s 415 416) ∷ (s 416 417) ∷ (s 417 431) ∷ (s 431 432) ∷ (s 432 433) ∷ (s 433 447) ∷ (s 447 448) ∷ (s 448 449) ∷ (s 449 463) ∷ (s 463 464) ∷ (s 464 465) ∷ (s 465 479) ∷ (s 479 480) ∷ (s 480 481) ∷ (s 481 495) ∷ (s 495 496) ∷ (s 496 497) ∷ (s 497 511) ∷ (s 511 512) ∷ (s 512 513) ∷ (s 513 527) ∷ (s 527 528) ∷ (s 528 529) ∷ (s 529 543) ∷ (s 543 544) ∷ (s 544 545) ∷ (s 545 559) ∷ (s 559 560) ∷ (s 560 561) ∷ (s 561 575) ∷ (s 575 576) ∷ (s 576 577) ∷ (s 577 591) ∷ (s 591 592) ∷ (s 592 593) ∷ (s 593 607) ∷ (s 607 608) ∷ (s 608 609) ∷ (s 609 623) ∷ (s 623 624) ∷ (s 624 625) ∷ (s 625 639) ∷ (s 639 640) ∷ (s 640 641) ∷ (s 641 655) ∷ (s 655 656) ∷ (s 656 657) ∷ (s 657 671) ∷ (s 671 672) ∷ (s 672 673) ∷ (s 673 687) ∷ (s 687 688) ∷ (s 688 689) ∷ (s 689 703) ∷ (s 703 704) ∷ (s 704 705) ∷ (s 705 719) ∷ (s 719 720) ∷ (s 720 721) ∷ (s 721 735) ∷ (s 735 736) ∷ (s 736 737) ∷ (s 737 751) ∷ (s 751 752) ∷ (s 752 753) ∷ (s 753 767) ∷ (s 767 768) ∷ (s 768 769) ∷ (s 769 783) ∷ (s 783 784) ∷ (s 784 785) ∷ (s 785 799) ∷ (s 799 800) ∷ (s 800 801) ∷ (s 801 815) ∷ (s 815 816) ∷ (s 816 817) ∷ (s 817 831) ∷ (s 831 832) ∷ (s 832 833) ∷ (s 833 847) ∷ (s 847 848) ∷ (s 848 849) ∷ (s 849 863) ∷ (s 863 864) ∷ (s 864 865) ∷ (s 865 879) ∷ (s 879 880) ∷ (s 880 881) ∷ (s 881 895) ∷ (s 895 896) ∷ (s 896 897) ∷ (s 897 911) ∷ (s 911 912) ∷ (s 912 913) ∷ (s 913 927) ∷ (s 927 928) ∷ (s 928 929) ∷ (s 929 943) ∷ (s 943 944) ∷ (s 944 945) ∷ (s 945 959) ∷ (s 959 960) ∷ (s 960 961) ∷ (s 961 975) ∷ (s 975 976) ∷ (s 976 977) ∷ (s 977 991) ∷ (s 991 992) ∷ (s 992 993) ∷ (s 993 1007) ∷ (s 1007 1008) ∷ (s 1008 1009) ∷ (s 1009 1023) ∷ (s 1023 1024) ∷ (s 1024 1025) ∷ (s 1025 1039) ∷ (s 1039 1040) ∷ (s 1040 1041) ∷ (s 1041 1055) ∷ (s 1055 1056) ∷ (s 1056 1057) ∷ (s 1057 1071) ∷ (s 1071 1072) ∷ (s 1072 1073) ∷ (s 1073 1087) ∷ (s 1087 1088) ∷ (s 1088 1089) ∷ (s 1089 1103) ∷ (s 1103 1104) ∷ (s 1104 1105) ∷ (s 1105 1119) ∷ (s 1119 1120) ∷ (s 1120 1121) ∷ (s 1121 1135) ∷ (s 1135 1136) ∷ (s 1136 1137) ∷ (s 1137 1151) ∷ (s 1151 1152) ∷ (s 1152 1153) ∷ (s 1153 1167) ∷ (s 1167 1168) ∷ (s 1168 1169) ∷ (s 1169 1183) ∷ (s 1183 1184) ∷ (s 1184 1185) ∷ (s 1185 1199) ∷ (s 1199 1200) ∷ (s 1200 1201) ∷ (s 1201 1215) ∷ (s 1215 1216) ∷ (s 1216 1217) ∷ (s 1217 1231) ∷ (s 1231 1232) ∷ (s 1232 1233) ∷ (s 1233 1247) ∷ (s 1247 1248) ∷ (s 1248 1249) ∷ (s 1249 1263) ∷ (s 1263 1264) ∷ (s 1264 1265) ∷ (s 1265 1279) ∷ (s 1279 1280) ∷ (s 1280 1281) ∷ (s 1281 1295) ∷ (s 1295 1296) ∷ (s 1296 1297) ∷ (s 1297 1311) ∷ (s 1311 1312) ∷ (s 1312 1313) ∷ (s 1313 1327) ∷ (s 1327 1328) ∷ (s 1328 1329) ∷ (s 1329 1343) ∷ (s 1343 1344) ∷ (s 1344 1345) ∷ (s 1345 1359) ∷ (s 1359 1360) ∷ (s 1360 1361) ∷ (s 1361 1375) ∷ (s 1375 1376) ∷ (s 1376 1377) ∷ (s 1377 1391) ∷ (s 1391 1392) ∷ (s 1392 1393) ∷ (s 1393 1407) ∷ (s 1407 1408) ∷ (s 1408 1409) ∷ (s 1409 1423) ∷ (s 1423 1424) ∷ (s 1424 1425) ∷ (s 1425 1439) ∷ (s 1439 1440) ∷ (s 1440 1441) ∷ (s 1441 1455) ∷ (s 1455 1456) ∷ (s 1456 1457) ∷ (s 1457 1471) ∷ (s 1471 1472) ∷ (s 1472 1473) ∷ (s 1473 1487) ∷ (s 1487 1488) ∷ (s 1488 1489) ∷ (s 1489 1503) ∷ (s 1503 1504) ∷ (s 1504 1505) ∷ (s 1505 1519) ∷ (s 1519 1520) ∷ (s 1520 1521) ∷ (s 1521 1535) ∷ (s 1535 1536) ∷ (s 1536 1537) ∷ (s 1537 1551) ∷ (s 1551 1552) ∷ (s 1552 1553) ∷ (s 1553 1567) ∷ (s 1567 1568) ∷ (s 1568 1569) ∷ (s 1569 1583) ∷ (s 1583 1584) ∷ (s 1584 1585) ∷ (s 1585 1599) ∷ (s 1599 1600) ∷ (s 1600 1601) ∷ (s 1601 1615) ∷ (s 1615 1616) ∷ (s 1616 1617) ∷ (s 1617 1631) ∷ (s 1631 1632) ∷ (s 1632 1633) ∷ (s 1633 1647) ∷ (s 1647 1648) ∷ (s 1648 1649) ∷ (s 1649 1663) ∷ (s 1663 1664) ∷ (s 1664 1665) ∷ (s 1665 1679) ∷ (s 1679 1680) ∷ (s 1680 1681) ∷ (s 1681 1695) ∷ (s 1695 1696) ∷ (s 1696 1697) ∷ (s 1697 1711) ∷ (s 1711 1712) ∷ (s 1712 1713) ∷ (s 1713 1727) ∷ (s 1727 1728) ∷ (s 1728 1729) ∷ (s 1729 1743) ∷ (s 1743 1744) ∷ (s 1744 1745) ∷ (s 1745 1759) ∷ (s 1759 1760) ∷ (s 1760 1761) ∷ (s 1761 1775) ∷ (s 1775 1776) ∷ (s 1776 1777) ∷ (s 1777 1791) ∷ (s 1791 1792) ∷ (s 1792 1793) ∷ (s 1793 1807) ∷ (s 1807 1808) ∷ (s 1808 1809) ∷ (s 1809 1823) ∷ (s 1823 1824) ∷ (s 1824 1825) ∷ (s 1825 1839) ∷ (s 1839 1840) ∷ (s 1840 1841) ∷ (s 1841 1855) ∷ (s 1855 1856) ∷ (s 1856 1857) ∷ (s 1857 1871) ∷ (s 1871 1872) ∷ (s 1872 1873) ∷ (s 1873 1887) ∷ (s 1887 1888) ∷ (s 1888 1889) ∷ (s 1889 1903) ∷ (s 1903 1904) ∷ (s 1904 1905) ∷ (s 1905 1919) ∷ (s 1919 1920) ∷ (s 1920 1921) ∷ (s 1921 1935) ∷ (s 1935 1936) ∷ (s 1936 1937) ∷ (s 1937 1951) ∷ (s 1951 1952) ∷ (s 1952 1953) ∷ (s 1953 1967) ∷ (s 1967 1968) ∷ (s 1968 1969) ∷ (s 1969 1983) ∷ (s 1983 1984) ∷ (s 1984 1985) ∷ (s 1985 1999) ∷ (s 1999 2000) ∷ (s 2000 2001) ∷ (s 2001 2015) ∷ (s 2015 2016) ∷ (s 2016 2017) ∷ (s 2017 2031) ∷ (s 2031 2032) ∷ []) ∷ ((s 0 1) ∷ []) ∷ []) ((0, (codes "a.scm"), 0) ∷ (0, (codes "b.sld"), 1) ∷ (0, (codes "p.scm"), 2) ∷ (1, (codes "a.scm"), 0) ∷ (1, (codes "b.sld"), 1) ∷ (1, (codes "p.scm"), 2) ∷ (2, (codes "a.scm"), 0) ∷ (2, (codes "b.sld"), 1) ∷ (2, (codes "p.scm"), 2) ∷ []) ((Some (((g.list (p 0 3 0 17) (g.part (g.atom (p 1 1 1 8) (g.spelled (k.Name (codes "include") false))) (g.part (g.atom (p 2 2 9 16) (g.spelled (k.Quoted (codes "p.scm")))) g.none)))) ∷ [])) ∷ (Some (((g.list (p 0 2 0 16) (g.part (g.atom (p 1 1 1 15) (g.spelled (k.Name (codes "define-library") false))) g.none))) ∷ ((g.list (p 3 5 16 32) (g.part (g.atom (p 4 4 17 31) (g.spelled (k.Name (codes "define-library") false))) g.none))) ∷ ((g.list (p 6 8 32 48) (g.part (g.atom (p 7 7 33 47) (g.spelled (k.Name (codes "define-library") false))) g.none))) ∷ ((g.list (p 9 11 48 64) (g.part (g.atom (p 10 10 49 63) (g.spelled (k.Name (codes "define-library") false))) g.none))) ∷ ((g.list (p 12 14 64 80) (g.part (g.atom (p 13 13 65 79) (g.spelled (k.Name (codes "define-library") false))) g.none))) ∷ ((g.list (p 15 17 80 96) (g.part (g.atom (p 16 16 81 95) (g.spelled (k.Name (codes "define-library") false))) g.none))) ∷ ((g.list (p 18 20 96 112) (g.part (g.atom (p 19 19 97 111) (g.spelled (k.Name (codes "define-library") false))) g.none))) ∷ ((g.list (p 21 23 112 128) (g.part (g.atom (p 22 22 113 127) (g.spelled (k.Name (codes "define-library") false))) g.none))) ∷ ((g.list (p 24 26 128 144) (g.part (g.atom (p 25 25 129 143) (g.spelled (k.Name (codes "define-library") false))) g.none))) ∷ ((g.list (p 27 29 144 160) (g.part (g.atom (p 28 28 145 159) (g.spelled (k.Name (codes "define-library") false))) g.none))) ∷ ((g.list (p 30 32 160 176) (g.part (g.atom (p 31 31 161 175) (g.spelled (k.Name (codes "define-library") false))) g.none))) ∷ ((g.list (p 33 35 176 192) (g.part (g.atom (p 34 34 177 191) (g.spelled (k.Name (codes "define-library") false))) g.none))) ∷ ((g.list (p 36 38 192 208) (g.part (g.atom (p 37 37 193 207) (g.spelled (k.Name (codes "define-library") false))) g.none))) ∷ ((g.list (p 39 41 208 224) (g.part (g.atom (p 40 40 209 223) (g.spelled (k.Name (codes "define-library") false))) g.none))) ∷ ((g.list (p 42 44 224 240) (g.part (g.atom (p 43 43 225 239) (g.spelled (k.Name (codes "define-library") false))) g.none))) ∷ ((g.list (p 45 47 240 256) (g.part (g.atom (p 46 46 241 255) (g.spelled (k.Name (codes "define-library") false))) g.none))) ∷ ((g.list (p 48 50 256 272) (g.part (g.atom (p 49 49 257 271) (g.spelled (k.Name (codes "define-library") false))) g.none))) ∷ ((g.list (p 51 53 272 288) (g.part (g.atom (p 52 52 273 287) (g.spelled (k.Name (codes "define-library") false))) g.none))) ∷ ((g.list (p 54 56 288 304) (g.part (g.atom (p 55 55 289 303) (g.spelled (k.Name (codes "define-library") false))) g.none))) ∷ ((g.list (p 57 59 304 320) (g.part (g.atom (p 58 58 305 319) (g.spelled (k.Name (codes "define-library") false))) g.none))) ∷ ((g.list (p 60 62 320 336) (g.part (g.atom (p 61 61 321 335) (g.spelled (k.Name (codes "define-library") false))) g.none))) ∷ ((g.list (p 63 65 336 352) (g.part (g.atom (p 64 64 337 351) (g.spelled (k.Name (codes "define-library") false))) g.none))) ∷ ((g.list (p 66 68 352 368) (g.part (g.atom (p 67 67 353 367) (g.spelled (k.Name (codes "define-library") false))) g.none))) ∷ ((g.list (p 69 71 368 384) (g.part (g.atom (p 70 70 369 383) (g.spelled (k.Name (codes "define-library") false))) g.none))) ∷ ((g.list (p 72 74 384 400) (g.part (g.atom (p 73 73 385 399) (g.spelled (k.Name (codes "define-library") false))) g.none))) ∷ ((g.list (p 75 77 400 416) (g.part (g.atom (p 76 76 401 415) (g.spelled (k.Name (codes "define-library") false))) g.none))) ∷ ((g.list (p 78 80 416 432) (g.part (g.atom (p 79 79 417 431) (g.spelled (k.Name (codes "define-library") false))) g.none))) ∷ ((g.list (p 81 83 432 448) (g.part (g.atom (p 82 82 433 447) (g.spelled (k.Name (codes "define-library") false))) g.none))) ∷ ((g.list (p 84 86 448 464) (g.part (g.atom (p 85 85 449 463) (g.spelled (k.Name (codes "define-library") false))) g.none))) ∷ ((g.list (p 87 89 464 480) (g.part (g.atom (p 88 88 465 479) (g.spelled (k.Name (codes "define-library") false))) g.none))) ∷ ((g.list (p 90 92 480 496) (g.part (g.atom (p 91 91 481 495) (g.spelled (k.Name (codes "define-library") false))) g.none))) ∷ ((g.list (p 93 95 496 512) (g.part (g.atom (p 94 94 497 511) (g.spelled (k.Name (codes "define-library") false))) g.none))) ∷ ((g.list (p 96 98 512 528) (g.part (g.atom (p 97 97 513 527) (g.spelled (k.Name (codes "define-library") false))) g.none))) ∷ ((g.list (p 99 101 528 544) (g.part (g.atom (p 100 100 529 543) (g.spelled (k.Name (codes "define-library") false))) g.none))) ∷ ((g.list (p 102 104 544 560) (g.part (g.atom (p 103 103 545 559) (g.spelled (k.Name (codes "define-library") false))) g.none))) ∷ ((g.list (p 105 107 560 576) (g.part (g.atom (p 106 106 561 575) (g.spelled (k.Name (codes "define-library") false))) g.none))) ∷ ((g.list (p 108 110 576 592) (g.part (g.atom (p 109 109 577 591) (g.spelled (k.Name (codes "define-library") false))) g.none))) ∷ ((g.list (p 111 113 592 608) (g.part (g.atom (p 112 112 593 607) (g.spelled (k.Name (codes "define-library") false))) g.none))) ∷ ((g.list (p 114 116 608 624) (g.part (g.atom (p 115 115 609 623) (g.spelled (k.Name (codes "define-library") false))) g.none))) ∷ ((g.list (p 117 119 624 640) (g.part (g.atom (p 118 118 625 639) (g.spelled (k.Name (codes "define-library") false))) g.none))) ∷ ((g.list (p 120 122 640 656) (g.part (g.atom (p 121 121 641 655) (g.spelled (k.Name (codes "define-library") false))) g.none))) ∷ ((g.list (p 123 125 656 672) (g.part (g.atom (p 124 124 657 671) (g.spelled (k.Name (codes "define-library") false))) g.none))) ∷ ((g.list (p 126 128 672 688) (g.part (g.atom (p 127 127 673 687) (g.spelled (k.Name (codes "define-library") false))) g.none))) ∷ ((g.list (p 129 131 688 704) (g.part (g.atom (p 130 130 689 703) (g.spelled (k.Name (codes "define-library") false))) g.none))) ∷ ((g.list (p 132 134 704 720) (g.part (g.atom (p 133 133 705 719) (g.spelled (k.Name (codes "define-library") false))) g.none))) ∷ ((g.list (p 135 137 720 736) (g.part (g.atom (p 136 136 721 735) (g.spelled (k.Name (codes "define-library") false))) g.none))) ∷ ((g.list (p 138 140 736 752) (g.part (g.atom (p 139 139 737 751) (g.spelled (k.Name (codes "define-library") false))) g.none))) ∷ ((g.list (p 141 143 752 768) (g.part (g.atom (p 142 142 753 767) (g.spelled (k.Name (codes "define-library") false))) g.none))) ∷ ((g.list (p 144 146 768 784) (g.part (g.atom (p 145 145 769 783) (g.spelled (k.Name (codes "define-library") false))) g.none))) ∷ ((g.list (p 147 149 784 800) (g.part (g.atom (p 148 148 785 799) (g.spelled (k.Name (codes "define-library") false))) g.none))) ∷ ((g.list (p 150 152 800 816) (g.part (g.atom (p 151 151 801 815) (g.spelled (k.Name (codes "define-library") false))) g.none))) ∷ ((g.list (p 153 155 816 832) (g.part (g.atom (p 154 154 817 831) (g.spelled (k.Name (codes "define-library") false))) g.none))) ∷ ((g.list (p 156 158 832 848) (g.part (g.atom (p 157 157 833 847) (g.spelled (k.Name (codes "define-library") false))) g.none))) ∷ ((g.list (p 159 161 848 864) (g.part (g.atom (p 160 160 849 863) (g.spelled (k.Name (codes "define-library") false))) g.none))) ∷ ((g.list (p 162 164 864 880) (g.part (g.atom (p 163 163 865 879) (g.spelled (k.Name (codes "define-library") false))) g.none))) ∷ ((g.list (p 165 167 880 896) (g.part (g.atom (p 166 166 881 895) (g.spelled (k.Name (codes "define-library") false))) g.none))) ∷ ((g.list (p 168 170 896 912) (g.part (g.atom (p 169 169 897 911) (g.spelled (k.Name (codes "define-library") false))) g.none))) ∷ ((g.list (p 171 173 912 928) (g.part (g.atom (p 172 172 913 927) (g.spelled (k.Name (codes "define-library") false))) g.none))) ∷ ((g.list (p 174 176 928 944) (g.part (g.atom (p 175 175 929 943) (g.spelled (k.Name (codes "define-library") false))) g.none))) ∷ ((g.list (p 177 179 944 960) (g.part (g.atom (p 178 178 945 959) (g.spelled (k.Name (codes "define-library") false))) g.none))) ∷ ((g.list (p 180 182 960 976) (g.part (g.atom (p 181 181 961 975) (g.spelled (k.Name (codes "define-library") false))) g.none))) ∷ ((g.list (p 183 185 976 992) (g.part (g.atom (p 184 184 977 991) (g.spelled (k.Name (codes "define-library") false))) g.none))) ∷ ((g.list (p 186 188 992 1008) (g.part (g.atom (p 187 187 993 1007) (g.spelled (k.Name (codes "define-library") false))) g.none))) ∷ ((g.list (p 189 191 1008 1024) (g.part (g.atom (p 190 190 1009 1023) (g.spelled (k.Name (codes "define-library") false))) g.none))) ∷ ((g.list (p 192 194 1024 1040) (g.part (g.atom (p 193 193 1025 1039) (g.spelled (k.Name (codes "define-library") false))) g.none))) ∷ ((g.list (p 195 197 1040 1056) (g.part (g.atom (p 196 196 1041 1055) (g.spelled (k.Name (codes "define-library") false))) g.none))) ∷ ((g.list (p 198 200 1056 1072) (g.part (g.atom (p 199 199 1057 1071) (g.spelled (k.Name (codes "define-library") false))) g.none))) ∷ ((g.list (p 201 203 1072 1088) (g.part (g.atom (p 202 202 1073 1087) (g.spelled (k.Name (codes "define-library") false))) g.none))) ∷ ((g.list (p 204 206 1088 1104) (g.part (g.atom (p 205 205 1089 1103) (g.spelled (k.Name (codes "define-library") false))) g.none))) ∷ ((g.list (p 207 209 1104 1120) (g.part (g.atom (p 208 208 1105 1119) (g.spelled (k.Name (codes "define-library") false))) g.none))) ∷ ((g.list (p 210 212 1120 1136) (g.part (g.atom (p 211 211 1121 1135) (g.spelled (k.Name (codes "define-library") false))) g.none))) ∷ ((g.list (p 213 215 1136 1152) (g.part (g.atom (p 214 214 1137 1151) (g.spelled (k.Name (codes "define-library") false))) g.none))) ∷ ((g.list (p 216 218 1152 1168) (g.part (g.atom (p 217 217 1153 1167) (g.spelled (k.Name (codes "define-library") false))) g.none))) ∷ ((g.list (p 219 221 1168 1184) (g.part (g.atom (p 220 220 1169 1183) (g.spelled (k.Name (codes "define-library") false))) g.none))) ∷ ((g.list (p 222 224 1184 1200) (g.part (g.atom (p 223 223 1185 1199) (g.spelled (k.Name (codes "define-library") false))) g.none))) ∷ ((g.list (p 225 227 1200 1216) (g.part (g.atom (p 226 226 1201 1215) (g.spelled (k.Name (codes "define-library") false))) g.none))) ∷ ((g.list (p 228 230 1216 1232) (g.part (g.atom (p 229 229 1217 1231) (g.spelled (k.Name (codes "define-library") false))) g.none))) ∷ ((g.list (p 231 233 1232 1248) (g.part (g.atom (p 232 232 1233 1247) (g.spelled (k.Name (codes "define-library") false))) g.none))) ∷ ((g.list (p 234 236 1248 1264) (g.part (g.atom (p 235 235 1249 1263) (g.spelled (k.Name (codes "define-library") false))) g.none))) ∷ ((g.list (p 237 239 1264 1280) (g.part (g.atom (p 238 238 1265 1279) (g.spelled (k.Name (codes "define-library") false))) g.none))) ∷ ((g.list (p 240 242 1280 1296) (g.part (g.atom (p 241 241 1281 1295) (g.spelled (k.Name (codes "define-library") false))) g.none))) ∷ ((g.list (p 243 245 1296 1312) (g.part (g.atom (p 244 244 1297 1311) (g.spelled (k.Name (codes "define-library") false))) g.none))) ∷ ((g.list (p 246 248 1312 1328) (g.part (g.atom (p 247 247 1313 1327) (g.spelled (k.Name (codes "define-library") false))) g.none))) ∷ ((g.list (p 249 251 1328 1344) (g.part (g.atom (p 250 250 1329 1343) (g.spelled (k.Name (codes "define-library") false))) g.none))) ∷ ((g.list (p 252 254 1344 1360) (g.part (g.atom (p 253 253 1345 1359) (g.spelled (k.Name (codes "define-library") false))) g.none))) ∷ ((g.list (p 255 257 1360 1376) (g.part (g.atom (p 256 256 1361 1375) (g.spelled (k.Name (codes "define-library") false))) g.none))) ∷ ((g.list (p 258 260 1376 1392) (g.part (g.atom (p 259 259 1377 1391) (g.spelled (k.Name (codes "define-library") false))) g.none))) ∷ ((g.list (p 261 263 1392 1408) (g.part (g.atom (p 262 262 1393 1407) (g.spelled (k.Name (codes "define-library") false))) g.none))) ∷ ((g.list (p 264 266 1408 1424) (g.part (g.atom (p 265 265 1409 1423) (g.spelled (k.Name (codes "define-library") false))) g.none))) ∷ ((g.list (p 267 269 1424 1440) (g.part (g.atom (p 268 268 1425 1439) (g.spelled (k.Name (codes "define-library") false))) g.none))) ∷ ((g.list (p 270 272 1440 1456) (g.part (g.atom (p 271 271 1441 1455) (g.spelled (k.Name (codes "define-library") false))) g.none))) ∷ ((g.list (p 273 275 1456 1472) (g.part (g.atom (p 274 274 1457 1471) (g.spelled (k.Name (codes "define-library") false))) g.none))) ∷ ((g.list (p 276 278 1472 1488) (g.part (g.atom (p 277 277 1473 1487) (g.spelled (k.Name (codes "define-library") false))) g.none))) ∷ ((g.list (p 279 281 1488 1504) (g.part (g.atom (p 280 280 1489 1503) (g.spelled (k.Name (codes "define-library") false))) g.none))) ∷ ((g.list (p 282 284 1504 1520) (g.part (g.atom (p 283 283 1505 1519) (g.spelled (k.Name (codes "define-library") false))) g.none))) ∷ ((g.list (p 285 287 1520 1536) (g.part (g.atom (p 286 286 1521 1535) (g.spelled (k.Name (codes "define-library") false))) g.none))) ∷ ((g.list (p 288 290 1536 1552) (g.part (g.atom (p 289 289 1537 1551) (g.spelled (k.Name (codes "define-library") false))) g.none))) ∷ ((g.list (p 291 293 1552 1568) (g.part (g.atom (p 292 292 1553 1567) (g.spelled (k.Name (codes "define-library") false))) g.none))) ∷ ((g.list (p 294 296 1568 1584) (g.part (g.atom (p 295 295 1569 1583) (g.spelled (k.Name (codes "define-library") false))) g.none))) ∷ ((g.list (p 297 299 1584 1600) (g.part (g.atom (p 298 298 1585 1599) (g.spelled (k.Name (codes "define-library") false))) g.none))) ∷ ((g.list (p 300 302 1600 1616) (g.part (g.atom (p 301 301 1601 1615) (g.spelled (k.Name (codes "define-library") false))) g.none))) ∷ ((g.list (p 303 305 1616 1632) (g.part (g.atom (p 304 304 1617 1631) (g.spelled (k.Name (codes "define-library") false))) g.none))) ∷ ((g.list (p 306 308 1632 1648) (g.part (g.atom (p 307 307 1633 1647) (g.spelled (k.Name (codes "define-library") false))) g.none))) ∷ ((g.list (p 309 311 1648 1664) (g.part (g.atom (p 310 310 1649 1663) (g.spelled (k.Name (codes "define-library") false))) g.none))) ∷ ((g.list (p 312 314 1664 1680) (g.part (g.atom (p 313 313 1665 1679) (g.spelled (k.Name (codes "define-library") false))) g.none))) ∷ ((g.list (p 315 317 1680 1696) (g.part (g.atom (p 316 316 1681 1695) (g.spelled (k.Name (codes "define-library") false))) g.none))) ∷ ((g.list (p 318 320 1696 1712) (g.part (g.atom (p 319 319 1697 1711) (g.spelled (k.Name (codes "define-library") false))) g.none))) ∷ ((g.list (p 321 323 1712 1728) (g.part (g.atom (p 322 322 1713 1727) (g.spelled (k.Name (codes "define-library") false))) g.none))) ∷ ((g.list (p 324 326 1728 1744) (g.part (g.atom (p 325 325 1729 1743) (g.spelled (k.Name (codes "define-library") false))) g.none))) ∷ ((g.list (p 327 329 1744 1760) (g.part (g.atom (p 328 328 1745 1759) (g.spelled (k.Name (codes "define-library") false))) g.none))) ∷ ((g.list (p 330 332 1760 1776) (g.part (g.atom (p 331 331 1761 1775) (g.spelled (k.Name (codes "define-library") false))) g.none))) ∷ ((g.list (p 333 335 1776 1792) (g.part (g.atom (p 334 334 1777 1791) (g.spelled (k.Name (codes "define-library") false))) g.none))) ∷ ((g.list (p 336 338 1792 1808) (g.part (g.atom (p 337 337 1793 1807) (g.spelled (k.Name (codes "define-library") false))) g.none))) ∷ ((g.list (p 339 341 1808 1824) (g.part (g.atom (p 340 340 1809 1823) (g.spelled (k.Name (codes "define-library") false))) g.none))) ∷ ((g.list (p 342 344 1824 1840) (g.part (g.atom (p 343 343 1825 1839) (g.spelled (k.Name (codes "define-library") false))) g.none))) ∷ ((g.list (p 345 347 1840 1856) (g.part (g.atom (p 346 346 1841 1855) (g.spelled (k.Name (codes "define-library") false))) g.none))) ∷ ((g.list (p 348 350 1856 1872) (g.part (g.atom (p 349 349 1857 1871) (g.spelled (k.Name (codes "define-library") false))) g.none))) ∷ ((g.list (p 351 353 1872 1888) (g.part (g.atom (p 352 352 1873 1887) (g.spelled (k.Name (codes "define-library") false))) g.none))) ∷ ((g.list (p 354 356 1888 1904) (g.part (g.atom (p 355 355 1889 1903) (g.spelled (k.Name (codes "define-library") false))) g.none))) ∷ ((g.list (p 357 359 1904 1920) (g.part (g.atom (p 358 358 1905 1919) (g.spelled (k.Name (codes "define-library") false))) g.none))) ∷ ((g.list (p 360 362 1920 1936) (g.part (g.atom (p 361 361 1921 1935) (g.spelled (k.Name (codes "define-library") false))) g.none))) ∷ ((g.list (p 363 365 1936 1952) (g.part (g.atom (p 364 364 1937 1951) (g.spelled (k.Name (codes "define-library") false))) g.none))) ∷ ((g.list (p 366 368 1952 1968) (g.part (g.atom (p 367 367 1953 1967) (g.spelled (k.Name (codes "define-library") false))) g.none))) ∷ ((g.list (p 369 371 1968 1984) (g.part (g.atom (p 370 370 1969 1983) (g.spelled (k.Name (codes "define-library") false))) g.none))) ∷ ((g.list (p 372 374 1984 2000) (g.part (g.atom (p 373 373 1985 1999) (g.spelled (k.Name (codes "define-library") false))) g.none))) ∷ ((g.list (p 375 377 2000 2016) (g.part (g.atom (p 376 376 2001 2015) (g.spelled (k.Name (codes "define-library") false))) g.none))) ∷ ((g.list (p 378 380 2016 2032) (g.part (g.atom (p 379 379 2017 2031) (g.spelled (k.Name (codes "define-library") false))) g.none))) ∷ [])) ∷ (Some (((g.atom (p 0 0 0 1) (g.spelled (k.Numeral (codes "1"))))) ∷ [])) ∷ []) ≡ ((q 0 9 16 105 (codes "included text not usable p.scm")) ∷ (q 1 0 16 61 (codes "bad declaration")) ∷ (q 1 16 32 61 (codes "bad declaration")) ∷ (q 1 32 48 61 (codes "bad declaration")) ∷ (q 1 48 64 61 (codes "bad declaration")) ∷ (q 1 64 80 61 (codes "bad declaration")) ∷ (q 1 80 96 61 (codes "bad declaration")) ∷ (q 1 96 112 61 (codes "bad declaration")) ∷ (q 1 112 128 61 (codes "bad declaration")) ∷ (q 1 128 144 61 (codes "bad declaration")) ∷ (q 1 144 160 61 (codes "bad declaration")) ∷ (q 1 160 176 61 (codes "bad declaration")) ∷ (q 1 176 192 61 (codes "bad declaration")) ∷ (q 1 192 208 61 (codes "bad declaration")) ∷ (q 1 208 224 61 (codes "bad declaration")) ∷ (q 1 224 240 61 (codes "bad declaration")) ∷ (q 1 240 256 61 (codes "bad declaration")) ∷ (q 1 256 272 61 (codes "bad declaration")) ∷ (q 1 272 288 61 (codes "bad declaration")) ∷ (q 1 288 304 61 (codes "bad declaration")) ∷ (q 1 304 320 61 (codes "bad declaration")) ∷ (q 1 320 336 61 (codes "bad declaration")) ∷ (q 1 336 352 61 (codes "bad declaration")) ∷ (q 1 352 368 61 (codes "bad declaration")) ∷ (q 1 368 384 61 (codes "bad declaration")) ∷ (q 1 384 400 61 (codes "bad declaration")) ∷ (q 1 400 416 61 (codes "bad declaration")) ∷ (q 1 416 432 61 (codes "bad declaration")) ∷ (q 1 432 448 61 (codes "bad declaration")) ∷ (q 1 448 464 61 (codes "bad declaration")) ∷ (q 1 464 480 61 (codes "bad declaration")) ∷ (q 1 480 496 61 (codes "bad declaration")) ∷ (q 1 496 512 61 (codes "bad declaration")) ∷ (q 1 512 528 61 (codes "bad declaration")) ∷ (q 1 528 544 61 (codes "bad declaration")) ∷ (q 1 544 560 61 (codes "bad declaration")) ∷ (q 1 560 576 61 (codes "bad declaration")) ∷ (q 1 576 592 61 (codes "bad declaration")) ∷ (q 1 592 608 61 (codes "bad declaration")) ∷ (q 1 608 624 61 (codes "bad declaration")) ∷ (q 1 624 640 61 (codes "bad declaration")) ∷ (q 1 640 656 61 (codes "bad declaration")) ∷ (q 1 656 672 61 (codes "bad declaration")) ∷ (q 1 672 688 61 (codes "bad declaration")) ∷ (q 1 688 704 61 (codes "bad declaration")) ∷ (q 1 704 720 61 (codes "bad declaration")) ∷ (q 1 720 736 61 (codes "bad declaration")) ∷ (q 1 736 752 61 (codes "bad declaration")) ∷ (q 1 752 768 61 (codes "bad declaration")) ∷ (q 1 768 784 61 (codes "bad declaration")) ∷ (q 1 784 800 61 (codes "bad declaration")) ∷ (q 1 800 816 61 (codes "bad declaration")) ∷ (q 1 816 832 61 (codes "bad declaration")) ∷ (q 1 832 848 61 (codes "bad declaration")) ∷ (q 1 848 864 61 (codes "bad declaration")) ∷ (q 1 864 880 61 (codes "bad declaration")) ∷ (q 1 880 896 61 (codes "bad declaration")) ∷ (q 1 896 912 61 (codes "bad declaration")) ∷ (q 1 912 928 61 (codes "bad declaration")) ∷ (q 1 928 944 61 (codes "bad declaration")) ∷ (q 1 944 960 61 (codes "bad declaration")) ∷ (q 1 960 976 61 (codes "bad declaration")) ∷ (q 1 976 992 61 (codes "bad declaration")) ∷ (q 1 992 1008 61 (codes "bad declaration")) ∷ (q 1 1008 1024 61 (codes "bad declaration")) ∷ (q 1 1024 1040 61 (codes "bad declaration")) ∷ (q 1 1040 1056 61 (codes "bad declaration")) ∷ (q 1 1056 1072 61 (codes "bad declaration")) ∷ (q 1 1072 1088 61 (codes "bad declaration")) ∷ (q 1 1088 1104 61 (codes "bad declaration")) ∷ (q 1 1104 1120 61 (codes "bad declaration")) ∷ (q 1 1120 1136 61 (codes "bad declaration")) ∷ (q 1 1136 1152 61 (codes "bad declaration")) ∷ (q 1 1152 1168 61 (codes "bad declaration")) ∷ (q 1 1168 1184 61 (codes "bad declaration")) ∷ (q 1 1184 1200 61 (codes "bad declaration")) ∷ (q 1 1200 1216 61 (codes "bad declaration")) ∷ (q 1 1216 1232 61 (codes "bad declaration")) ∷ (q 1 1232 1248 61 (codes "bad declaration")) ∷ (q 1 1248 1264 61 (codes "bad declaration")) ∷ (q 1 1264 1280 61 (codes "bad declaration")) ∷ (q 1 1280 1296 61 (codes "bad declaration")) ∷ (q 1 1296 1312 61 (codes "bad declaration")) ∷ (q 1 1312 1328 61 (codes "bad declaration")) ∷ (q 1 1328 1344 61 (codes "bad declaration")) ∷ (q 1 1344 1360 61 (codes "bad declaration")) ∷ (q 1 1360 1376 61 (codes "bad declaration")) ∷ (q 1 1376 1392 61 (codes "bad declaration")) ∷ (q 1 1392 1408 61 (codes "bad declaration")) ∷ (q 1 1408 1424 61 (codes "bad declaration")) ∷ (q 1 1424 1440 61 (codes "bad declaration")) ∷ (q 1 1440 1456 61 (codes "bad declaration")) ∷ (q 1 1456 1472 61 (codes "bad declaration")) ∷ (q 1 1472 1488 61 (codes "bad declaration")) ∷ (q 1 1488 1504 61 (codes "bad declaration")) ∷ (q 1 1504 1520 61 (codes "bad declaration")) ∷ (q 1 1520 1536 61 (codes "bad declaration")) ∷ (q 1 1536 1552 61 (codes "bad declaration")) ∷ (q 1 1552 1568 61 (codes "bad declaration")) ∷ (q 1 1568 1584 61 (codes "bad declaration")) ∷ (q 1 1584 1600 61 (codes "bad declaration")) ∷ (q 1 1600 1616 61 (codes "bad declaration")) ∷ (q 1 1616 1632 61 (codes "bad declaration")) ∷ (q 1 1632 1648 61 (codes "bad declaration")) ∷ (q 1 1648 1664 61 (codes "bad declaration")) ∷ (q 1 1664 1680 61 (codes "bad declaration")) ∷ (q 1 1680 1696 61 (codes "bad declaration")) ∷ (q 1 1696 1712 61 (codes "bad declaration")) ∷ (q 1 1712 1728 61 (codes "bad declaration")) ∷ (q 1 1728 1744 61 (codes "bad declaration")) ∷ (q 1 1744 1760 61 (codes "bad declaration")) ∷ (q 1 1760 1776 61 (codes "bad declaration")) ∷ (q 1 1776 1792 61 (codes "bad declaration")) ∷ (q 1 1792 1808 61 (codes "bad declaration")) ∷ (q 1 1808 1824 61 (codes "bad declaration")) ∷ (q 1 1824 1840 61 (codes "bad declaration")) ∷ (q 1 1840 1856 61 (codes "bad declaration")) ∷ (q 1 1856 1872 61 (codes "bad declaration")) ∷ (q 1 1872 1888 61 (codes "bad declaration")) ∷ (q 1 1888 1904 61 (codes "bad declaration")) ∷ (q 1 1904 1920 61 (codes "bad declaration")) ∷ (q 1 1920 1936 61 (codes "bad declaration")) ∷ (q 1 1936 1952 61 (codes "bad declaration")) ∷ (q 1 1952 1968 61 (codes "bad declaration")) ∷ (q 1 1968 1984 61 (codes "bad declaration")) ∷ (q 1 1984 2000 61 (codes "bad declaration")) ∷ (q 1 2000 2016 61 (codes "bad declaration")) ∷ (q 1 2016 2032 61 (codes "bad declaration")) ∷ (q 2 0 1 67 (codes "too many units")) ∷ [])
unfolding base_names standard_libraries prelude encode_utf8
part-behind-the-most-units = refl

pub circle-of-two : told_early (((s 0 1) ∷ (s 1 8) ∷ (s 9 16) ∷ (s 16 17) ∷ []) ∷ ((s 0 1) ∷ (s 1 8) ∷ (s 9 16) ∷ (s 16 17) ∷ []) ∷ []) ((0, (codes "a.scm"), 0) ∷ (0, (codes "b.scm"), 1) ∷ (1, (codes "a.scm"), 0) ∷ (1, (codes "b.scm"), 1) ∷ []) ((Some (((g.list (p 0 3 0 17) (g.part (g.atom (p 1 1 1 8) (g.spelled (k.Name (codes "include") false))) (g.part (g.atom (p 2 2 9 16) (g.spelled (k.Quoted (codes "b.scm")))) g.none)))) ∷ [])) ∷ (Some (((g.list (p 0 3 0 17) (g.part (g.atom (p 1 1 1 8) (g.spelled (k.Name (codes "include") false))) (g.part (g.atom (p 2 2 9 16) (g.spelled (k.Quoted (codes "a.scm")))) g.none)))) ∷ [])) ∷ []) ≡ ((q 0 0 1 68 (codes "include cycle")) ∷ (q 1 0 1 68 (codes "include cycle")) ∷ [])
unfolding base_names standard_libraries prelude encode_utf8
circle-of-two = refl

pub choice-bad-in-a-part : told_early (((s 0 1) ∷ (s 1 15) ∷ (s 16 17) ∷ (s 17 18) ∷ (s 18 19) ∷ (s 20 21) ∷ (s 21 49) ∷ (s 50 57) ∷ (s 57 58) ∷ (s 58 59) ∷ []) ∷ ((s 0 1) ∷ (s 1 7) ∷ (s 8 9) ∷ (s 9 10) ∷ (s 11 12) ∷ (s 12 23) ∷ (s 23 24) ∷ []) ∷ []) ((0, (codes "a.sld"), 0) ∷ (0, (codes "p.scm"), 1) ∷ (1, (codes "a.sld"), 0) ∷ (1, (codes "p.scm"), 1) ∷ []) ((Some (((g.list (p 0 9 0 59) (g.part (g.atom (p 1 1 1 15) (g.spelled (k.Name (codes "define-library") false))) (g.part (g.list (p 2 4 16 19) (g.part (g.atom (p 3 3 17 18) (g.spelled (k.Name (codes "a") false))) g.none)) (g.part (g.list (p 5 8 20 58) (g.part (g.atom (p 6 6 21 49) (g.spelled (k.Name (codes "include-library-declarations") false))) (g.part (g.atom (p 7 7 50 57) (g.spelled (k.Quoted (codes "p.scm")))) g.none))) g.none))))) ∷ [])) ∷ (Some (((g.list (p 0 3 0 10) (g.part (g.atom (p 1 1 1 7) (g.spelled (k.Name (codes "export") false))) (g.part (g.atom (p 2 2 8 9) (g.spelled (k.Name (codes "x") false))) g.none)))) ∷ ((g.list (p 4 6 11 24) (g.part (g.atom (p 5 5 12 23) (g.spelled (k.Name (codes "cond-expand") false))) g.none))) ∷ [])) ∷ []) ≡ ((q 1 11 24 61 (codes "bad declaration")) ∷ [])
unfolding base_names standard_libraries prelude encode_utf8
choice-bad-in-a-part = refl

pub into-a-circle : told_early (((s 0 1) ∷ (s 1 7) ∷ (s 8 9) ∷ (s 10 11) ∷ (s 11 12) ∷ (s 13 14) ∷ (s 14 21) ∷ (s 22 29) ∷ (s 29 30) ∷ []) ∷ ((s 0 1) ∷ (s 1 8) ∷ (s 9 16) ∷ (s 16 17) ∷ []) ∷ ((s 0 1) ∷ (s 1 6) ∷ (s 7 8) ∷ (s 8 15) ∷ (s 16 23) ∷ (s 23 24) ∷ (s 24 25) ∷ []) ∷ []) ((0, (codes "a.scm"), 0) ∷ (0, (codes "b.scm"), 1) ∷ (0, (codes "c.scm"), 2) ∷ (1, (codes "a.scm"), 0) ∷ (1, (codes "b.scm"), 1) ∷ (1, (codes "c.scm"), 2) ∷ (2, (codes "a.scm"), 0) ∷ (2, (codes "b.scm"), 1) ∷ (2, (codes "c.scm"), 2) ∷ []) ((Some (((g.list (p 0 4 0 12) (g.part (g.atom (p 1 1 1 7) (g.spelled (k.Name (codes "define") false))) (g.part (g.atom (p 2 2 8 9) (g.spelled (k.Name (codes "x") false))) (g.part (g.atom (p 3 3 10 11) (g.spelled (k.Numeral (codes "1")))) g.none))))) ∷ ((g.list (p 5 8 13 30) (g.part (g.atom (p 6 6 14 21) (g.spelled (k.Name (codes "include") false))) (g.part (g.atom (p 7 7 22 29) (g.spelled (k.Quoted (codes "b.scm")))) g.none)))) ∷ [])) ∷ (Some (((g.list (p 0 3 0 17) (g.part (g.atom (p 1 1 1 8) (g.spelled (k.Name (codes "include") false))) (g.part (g.atom (p 2 2 9 16) (g.spelled (k.Quoted (codes "c.scm")))) g.none)))) ∷ [])) ∷ (Some (((g.list (p 0 6 0 25) (g.part (g.atom (p 1 1 1 6) (g.spelled (k.Name (codes "quote") false))) (g.part (g.list (p 2 5 7 24) (g.part (g.atom (p 3 3 8 15) (g.spelled (k.Name (codes "include") false))) (g.part (g.atom (p 4 4 16 23) (g.spelled (k.Quoted (codes "b.scm")))) g.none))) g.none)))) ∷ [])) ∷ []) ≡ ((q 0 22 29 105 (codes "included text not usable b.scm")) ∷ (q 1 0 1 68 (codes "include cycle")) ∷ (q 2 0 1 68 (codes "include cycle")) ∷ [])
unfolding base_names standard_libraries prelude encode_utf8
into-a-circle = refl

pub bad-behind-a-missing-text : told_early (((s 0 1) ∷ (s 1 15) ∷ (s 16 17) ∷ (s 17 18) ∷ (s 18 19) ∷ (s 20 21) ∷ (s 21 28) ∷ (s 29 42) ∷ (s 42 43) ∷ (s 44 45) ∷ (s 45 46) ∷ []) ∷ []) ((0, (codes "a.sld"), 0) ∷ []) ((Some (((g.list (p 0 10 0 46) (g.part (g.atom (p 1 1 1 15) (g.spelled (k.Name (codes "define-library") false))) (g.part (g.list (p 2 4 16 19) (g.part (g.atom (p 3 3 17 18) (g.spelled (k.Name (codes "a") false))) g.none)) (g.part (g.list (p 5 8 20 43) (g.part (g.atom (p 6 6 21 28) (g.spelled (k.Name (codes "include") false))) (g.part (g.atom (p 7 7 29 42) (g.spelled (k.Quoted (codes "nothing.scm")))) g.none))) (g.part (g.atom (p 9 9 44 45) (g.spelled (k.Numeral (codes "5")))) g.none)))))) ∷ [])) ∷ []) ≡ ((q 0 44 45 61 (codes "bad declaration")) ∷ [])
unfolding base_names standard_libraries prelude encode_utf8
bad-behind-a-missing-text = refl

pub include-without-strings : told_early (((s 0 1) ∷ (s 1 15) ∷ (s 16 17) ∷ (s 17 18) ∷ (s 18 19) ∷ (s 20 21) ∷ (s 21 27) ∷ (s 28 29) ∷ (s 29 30) ∷ (s 31 32) ∷ (s 32 39) ∷ (s 39 40) ∷ (s 40 41) ∷ []) ∷ []) ((0, (codes "a.sld"), 0) ∷ []) ((Some (((g.list (p 0 12 0 41) (g.part (g.atom (p 1 1 1 15) (g.spelled (k.Name (codes "define-library") false))) (g.part (g.list (p 2 4 16 19) (g.part (g.atom (p 3 3 17 18) (g.spelled (k.Name (codes "a") false))) g.none)) (g.part (g.list (p 5 8 20 30) (g.part (g.atom (p 6 6 21 27) (g.spelled (k.Name (codes "export") false))) (g.part (g.atom (p 7 7 28 29) (g.spelled (k.Name (codes "x") false))) g.none))) (g.part (g.list (p 9 11 31 40) (g.part (g.atom (p 10 10 32 39) (g.spelled (k.Name (codes "include") false))) g.none)) g.none)))))) ∷ [])) ∷ []) ≡ ((q 0 31 40 61 (codes "bad declaration")) ∷ [])
unfolding base_names standard_libraries prelude encode_utf8
include-without-strings = refl

pub include-of-a-name : told_early (((s 0 1) ∷ (s 1 15) ∷ (s 16 17) ∷ (s 17 18) ∷ (s 18 19) ∷ (s 20 21) ∷ (s 21 28) ∷ (s 29 34) ∷ (s 34 35) ∷ (s 35 36) ∷ []) ∷ ((s 0 1) ∷ []) ∷ []) ((0, (codes "a.sld"), 0) ∷ (0, (codes "b.scm"), 1) ∷ (1, (codes "a.sld"), 0) ∷ (1, (codes "b.scm"), 1) ∷ []) ((Some (((g.list (p 0 9 0 36) (g.part (g.atom (p 1 1 1 15) (g.spelled (k.Name (codes "define-library") false))) (g.part (g.list (p 2 4 16 19) (g.part (g.atom (p 3 3 17 18) (g.spelled (k.Name (codes "a") false))) g.none)) (g.part (g.list (p 5 8 20 35) (g.part (g.atom (p 6 6 21 28) (g.spelled (k.Name (codes "include") false))) (g.part (g.atom (p 7 7 29 34) (g.spelled (k.Name (codes "b.scm") false))) g.none))) g.none))))) ∷ [])) ∷ (Some (((g.atom (p 0 0 0 1) (g.spelled (k.Numeral (codes "1"))))) ∷ [])) ∷ []) ≡ ((q 0 20 35 61 (codes "bad declaration")) ∷ [])
unfolding base_names standard_libraries prelude encode_utf8
include-of-a-name = refl

pub random-1-5 : told_early (((s 0 1) ∷ (s 1 15) ∷ (s 16 17) ∷ (s 18 19) ∷ (s 19 26) ∷ (s 27 40) ∷ (s 41 42) ∷ (s 42 43) ∷ (s 44 45) ∷ (s 45 52) ∷ (s 53 66) ∷ (s 67 74) ∷ (s 74 75) ∷ (s 76 77) ∷ (s 77 83) ∷ (s 84 85) ∷ (s 85 86) ∷ (s 86 87) ∷ (s 87 88) ∷ (s 88 89) ∷ []) ∷ ((s 0 1) ∷ []) ∷ ((s 0 1) ∷ (s 1 8) ∷ (s 9 16) ∷ (s 17 30) ∷ (s 30 31) ∷ []) ∷ []) ((0, (codes "b.scm"), 0) ∷ (0, (codes "c.scm"), 1) ∷ (0, (codes "d/f.scm"), 2) ∷ (1, (codes "b.scm"), 0) ∷ (1, (codes "c.scm"), 1) ∷ (1, (codes "d/f.scm"), 2) ∷ (2, (codes "f.scm"), 2) ∷ []) ((Some (((g.list (p 0 19 0 89) (g.part (g.atom (p 1 1 1 15) (g.spelled (k.Name (codes "define-library") false))) (g.part (g.atom (p 2 2 16 17) (g.spelled (k.Name (codes "l") false))) (g.part (g.list (p 3 7 18 43) (g.part (g.atom (p 4 4 19 26) (g.spelled (k.Name (codes "include") false))) (g.part (g.atom (p 5 5 27 40) (g.spelled (k.Quoted (codes "missing.scm")))) (g.part (g.atom (p 6 6 41 42) (g.spelled (k.Name (codes "x") false))) g.none)))) (g.part (g.list (p 8 12 44 75) (g.part (g.atom (p 9 9 45 52) (g.spelled (k.Name (codes "include") false))) (g.part (g.atom (p 10 10 53 66) (g.spelled (k.Quoted (codes "missing.scm")))) (g.part (g.atom (p 11 11 67 74) (g.spelled (k.Quoted (codes "c.scm")))) g.none)))) (g.part (g.list (p 13 18 76 88) (g.part (g.atom (p 14 14 77 83) (g.spelled (k.Name (codes "import") false))) (g.part (g.list (p 15 17 84 87) (g.part (g.atom (p 16 16 85 86) (g.spelled (k.Name (codes "b") false))) g.none)) g.none))) g.none))))))) ∷ [])) ∷ (Some (((g.atom (p 0 0 0 1) (g.spelled (k.Name (codes "x") false)))) ∷ [])) ∷ (Some (((g.list (p 0 4 0 31) (g.part (g.atom (p 1 1 1 8) (g.spelled (k.Name (codes "include") false))) (g.part (g.atom (p 2 2 9 16) (g.spelled (k.Quoted (codes "c.scm")))) (g.part (g.atom (p 3 3 17 30) (g.spelled (k.Quoted (codes "missing.scm")))) g.none))))) ∷ [])) ∷ []) ≡ ((q 0 0 89 61 (codes "bad declaration")) ∷ (q 2 9 16 105 (codes "included text not usable c.scm")) ∷ (q 2 17 30 105 (codes "included text not usable missing.scm")) ∷ [])
unfolding base_names standard_libraries prelude encode_utf8
random-1-5 = refl

pub random-1-12 : told_early (((s 0 1) ∷ (s 1 8) ∷ (s 9 22) ∷ (s 23 36) ∷ (s 36 37) ∷ (s 38 39) ∷ (s 39 53) ∷ (s 54 55) ∷ (s 55 56) ∷ (s 56 57) ∷ (s 58 59) ∷ []) ∷ ([]) ∷ []) ((0, (codes "a.scm"), 0) ∷ (0, (codes "d/f.scm"), 1) ∷ (1, (codes "f.scm"), 1) ∷ []) ((Some (((g.list (p 0 4 0 37) (g.part (g.atom (p 1 1 1 8) (g.spelled (k.Name (codes "include") false))) (g.part (g.atom (p 2 2 9 22) (g.spelled (k.Quoted (codes "missing.scm")))) (g.part (g.atom (p 3 3 23 36) (g.spelled (k.Quoted (codes "missing.scm")))) g.none))))) ∷ ((g.list (p 5 10 38 59) (g.part (g.atom (p 6 6 39 53) (g.spelled (k.Name (codes "define-library") false))) (g.part (g.list (p 7 9 54 57) (g.part (g.atom (p 8 8 55 56) (g.spelled (k.Name (codes "l") false))) g.none)) g.none)))) ∷ [])) ∷ (None) ∷ []) ≡ ((q 0 9 22 105 (codes "included text not usable missing.scm")) ∷ (q 0 23 36 105 (codes "included text not usable missing.scm")) ∷ [])
unfolding base_names standard_libraries prelude encode_utf8
random-1-12 = refl

pub random-1-34 : told_early (([]) ∷ ((s 0 1) ∷ (s 1 8) ∷ (s 9 22) ∷ (s 22 23) ∷ (s 24 25) ∷ (s 25 39) ∷ (s 40 41) ∷ (s 41 42) ∷ (s 43 44) ∷ (s 44 45) ∷ (s 46 47) ∷ (s 47 52) ∷ (s 53 54) ∷ (s 55 56) ∷ (s 56 61) ∷ (s 62 63) ∷ (s 64 65) ∷ (s 65 93) ∷ (s 94 107) ∷ (s 108 121) ∷ (s 121 122) ∷ (s 122 123) ∷ (s 124 125) ∷ (s 125 131) ∷ (s 132 133) ∷ (s 133 139) ∷ (s 140 141) ∷ (s 142 143) ∷ (s 143 144) ∷ (s 144 145) ∷ []) ∷ []) ((0, (codes "a.scm"), 0) ∷ (0, (codes "b.scm"), 1) ∷ (1, (codes "a.scm"), 0) ∷ (1, (codes "b.scm"), 1) ∷ []) ((Some ([])) ∷ (Some (((g.list (p 0 3 0 23) (g.part (g.atom (p 1 1 1 8) (g.spelled (k.Name (codes "include") false))) (g.part (g.atom (p 2 2 9 22) (g.spelled (k.Quoted (codes "missing.scm")))) g.none)))) ∷ ((g.list (p 4 21 24 123) (g.part (g.atom (p 5 5 25 39) (g.spelled (k.Name (codes "define-library") false))) (g.part (g.list (p 6 9 40 45) (g.part (g.atom (p 7 7 41 42) (g.spelled (k.Name (codes "m") false))) (g.part (g.atom (p 8 8 43 44) (g.spelled (k.Numeral (codes "1")))) g.none))) (g.part (g.list (p 10 12 46 54) (g.part (g.atom (p 11 11 47 52) (g.spelled (k.Name (codes "begin") false))) g.none)) (g.part (g.list (p 13 15 55 63) (g.part (g.atom (p 14 14 56 61) (g.spelled (k.Name (codes "begin") false))) g.none)) (g.part (g.list (p 16 20 64 122) (g.part (g.atom (p 17 17 65 93) (g.spelled (k.Name (codes "include-library-declarations") false))) (g.part (g.atom (p 18 18 94 107) (g.spelled (k.Quoted (codes "missing.scm")))) (g.part (g.atom (p 19 19 108 121) (g.spelled (k.Quoted (codes "missing.scm")))) g.none)))) g.none))))))) ∷ ((g.list (p 22 29 124 145) (g.part (g.atom (p 23 23 125 131) (g.spelled (k.Name (codes "export") false))) (g.part (g.list (p 24 28 132 144) (g.part (g.atom (p 25 25 133 139) (g.spelled (k.Name (codes "rename") false))) (g.part (g.atom (p 26 26 140 141) (g.spelled (k.Name (codes "x") false))) (g.part (g.atom (p 27 27 142 143) (g.spelled (k.Name (codes "y") false))) g.none)))) g.none)))) ∷ [])) ∷ []) ≡ ((q 1 9 22 105 (codes "included text not usable missing.scm")) ∷ (q 1 94 107 105 (codes "included text not usable missing.scm")) ∷ (q 1 108 121 105 (codes "included text not usable missing.scm")) ∷ [])
unfolding base_names standard_libraries prelude encode_utf8
random-1-34 = refl

pub random-1-59 : told_early (((s 0 1) ∷ (s 1 8) ∷ (s 9 18) ∷ (s 19 28) ∷ (s 28 29) ∷ (s 30 31) ∷ (s 31 38) ∷ (s 39 48) ∷ (s 48 49) ∷ (s 50 51) ∷ (s 51 58) ∷ (s 59 72) ∷ (s 72 73) ∷ []) ∷ ((s 0 1) ∷ (s 1 2) ∷ []) ∷ []) ((0, (codes "b.scm"), 0) ∷ (0, (codes "d/f.scm"), 1) ∷ (1, (codes "f.scm"), 1) ∷ []) ((Some (((g.list (p 0 4 0 29) (g.part (g.atom (p 1 1 1 8) (g.spelled (k.Name (codes "include") false))) (g.part (g.atom (p 2 2 9 18) (g.spelled (k.Quoted (codes "d/f.scm")))) (g.part (g.atom (p 3 3 19 28) (g.spelled (k.Quoted (codes "d/f.scm")))) g.none))))) ∷ ((g.list (p 5 8 30 49) (g.part (g.atom (p 6 6 31 38) (g.spelled (k.Name (codes "include") false))) (g.part (g.atom (p 7 7 39 48) (g.spelled (k.Quoted (codes "d/f.scm")))) g.none)))) ∷ ((g.list (p 9 12 50 73) (g.part (g.atom (p 10 10 51 58) (g.spelled (k.Name (codes "include") false))) (g.part (g.atom (p 11 11 59 72) (g.spelled (k.Quoted (codes "missing.scm")))) g.none)))) ∷ [])) ∷ (Some (((g.list (p 0 1 0 2) (g.part (g.atom (p 0 0 0 1) (g.implied k.Quote)) (g.part (g.atom (p 1 1 1 2) (g.spelled (k.Numeral (codes "1")))) g.none)))) ∷ [])) ∷ []) ≡ ((q 0 59 72 105 (codes "included text not usable missing.scm")) ∷ [])
unfolding base_names standard_libraries prelude encode_utf8
random-1-59 = refl
