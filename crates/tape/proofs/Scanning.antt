-- A line that is read byte by byte, and what it comes to.
-- Assumes nothing.
use Prim.Native.Nat.{ℕ, suc, ◌+◌, ◌-◌, ◌≤◌, ◌<◌}
use mathlib.Core.Bool.{Bool, true, false, not, false≢true}
use mathlib.Core.List.{List, [], ◌∷◌, ◌++◌, map, foldl, foldl-append}
use mathlib.Core.Path.{◌≡◌, refl, sym, ap, subst, ◌∙◌}
use native.Mathlib.Nat.{add-zero, pos_of_ne-zero}
use native.Mathlib.Omega.{arith}
use borrow.Author.Tests.{ltb-false, leb-true, leb-false, le-leb, lt-leb, le-ltb, eqb-true, eq-eqb, ne_eqb}
use lib.Dec.{leb, ltb, eqb}
use lib.ListN.{length, get_or, set, drop, replicate, length-append, length-map, length-replicate}
use lib.Seq.{append_snoc, set_at}
use Rattle.std.specs.Prelude.{Option, Some, None}
use Rattle.std.proofs.lemmas.Option.{none-some}
use Rattle.forms.specs.Choice.{if◌then◌otherwise◌, all_of, any_of}
use Rattle.forms.specs.Tables.{every}
use Rattle.forms.proofs.Choice.{if_true, if_false, all_head, all_tail, all_leb, all_yes, all_empty, any_head, any_tail, any_not, any_empty, any_here, if_arms, eq_of_not, eq_not, tests}
use Rattle.forms.proofs.Loops.{fold_turn}
use Rattle.tape.specs.Lines.{is_digit, further, spelt, is_number, parted, numbers_after, Row, numbers_in, table, IsLine, line_of, Reads}
use Rattle.tape.specs.Lines.Reads.{a_line, no_line}
use Rattle.tape.specs.Scanning.{opened, digit, step, closed, kept, with_scan, begun, turn, wanted, finished, ended, scanned}
use Rattle.tape.specs.declared.Line.{Line}
use Rattle.tape.specs.declared.scan.Scan.{Scan}
use Rattle.tape.specs.declared.scan.Reading.{Reading}

-- ------------------------------------------------------------------ how far a line has been read

-- numbers, with zeros behind them
abbrev padded : List ℕ → List ℕ
padded ns = ns ++ replicate (5 - length ns) 0

-- some numbers were read, and one is open, of so many digits
abbrev midway : List ℕ → ℕ → ℕ → Reading
midway ns v k = record { scan = record { count = length ns + 1; digits = k; value = v }; numbers = padded ns }

length_snoc : (ns : List ℕ) (v : ℕ) → length (ns ++ (v ∷ [])) ≡ suc (length ns)
length_snoc ns v = rw (length-append ns (v ∷ [])) (omega arith)

length_padded : (ns : List ℕ) → length ns < 5 → length (padded ns) ≡ 5
length_padded ns l = rw (length-append ns (replicate (5 - length ns) 0), length-replicate {A = ℕ} (5 - length ns) 0) (omega arith)

-- one place more is taken
set_padded : (ns : List ℕ) (v : ℕ) → length ns < 5 → set (padded ns) (length ns) v ≡ padded (ns ++ (v ∷ []))
set_padded ns v l =
    let e : 5 - length ns ≡ suc (5 - suc (length ns)) = omega arith in
    rw (e, length_snoc ns v, append_snoc ns v (replicate (5 - suc (length ns)) 0)) (set_at ns 0 (replicate (5 - suc (length ns)) 0) v (length ns) refl)

-- the number that is open is put behind those before it
pub closes : (ns : List ℕ) (v k : ℕ) → length ns < 5 → closed (padded ns) (midway ns v k).scan ≡ padded (ns ++ (v ∷ []))
unfolding closed
closes ns v k l =
    let z : eqb (length ns + 1) 0 ≡ false = ne_eqb (length ns + 1) 0 (λ e. omega arith) in
    let m : ltb 5 (length ns + 1) ≡ false = le-ltb 5 (length ns + 1) (omega arith) in
    let p : length ns + 1 - 1 ≡ length ns = omega arith in
    if_false _ _ _ (any_not _ _ z (any_not _ _ m any_empty)) ∙ ap (λ n. set (padded ns) n v) p ∙ set_padded ns v l

-- ------------------------------------------------------------------ one byte more

at_space : (r : Reading) → turn (Some r) 32 ≡ with_scan (closed r.numbers r.scan) (opened r.scan)
unfolding step kept if◌then◌otherwise◌
at_space r = refl

at_digit : (r : Reading) (c : ℕ) → eqb c 32 ≡ false → any_of (ltb c 48 ∷ ltb 57 c ∷ []) ≡ false → turn (Some r) c ≡ with_scan r.numbers (digit r.scan c)
unfolding step kept if◌then◌otherwise◌
at_digit r c e d = rw (e, d)

at_other : (r : Reading) (c : ℕ) → eqb c 32 ≡ false → any_of (ltb c 48 ∷ ltb 57 c ∷ []) ≡ true → turn (Some r) c ≡ None
unfolding step kept if◌then◌otherwise◌
at_other r c e d = rw (e, d)

opens : (ns : List ℕ) (v k : ℕ) → 0 < k → suc (length ns) < 5 → turn (Some (midway ns v k)) 32 ≡ Some (midway (ns ++ (v ∷ [])) 0 0)
unfolding opened
opens ns v k h l =
    let z : eqb k 0 ≡ false = ne_eqb k 0 (λ e. omega arith) in
    let b : any_of (eqb k 0 ∷ leb 5 (length ns + 1) ∷ []) ≡ false = any_not _ _ z (any_not _ _ (lt-leb 5 (length ns + 1) (omega arith)) any_empty) in
    let n : length ns + 1 + 1 ≡ length (ns ++ (v ∷ [])) + 1 = rw (length_snoc ns v) (omega arith) in
    at_space (midway ns v k) ∙ ap (λ o. with_scan (closed (padded ns) (midway ns v k).scan) o) (if_false _ _ _ b)
    ∙ ap (λ l. Some (record { scan = record { count = length ns + 1 + 1; digits = 0; value = 0 }; numbers = l })) (closes ns v k (omega arith))
    ∙ ap (λ m. Some (record { scan = record { count = m; digits = 0; value = 0 }; numbers = padded (ns ++ (v ∷ [])) })) n

digits_on : (ns : List ℕ) (v k c : ℕ) → 48 ≤ c → c ≤ 57 → k < 10 → further v c ≤ 4_294_967_295 → turn (Some (midway ns v k)) c ≡ Some (midway ns (further v c) (k + 1))
unfolding digit
digits_on ns v k c a z h m =
    let s : eqb c 32 ≡ false = ne_eqb c 32 (λ e. omega arith) in
    let q : eqb (length ns + 1) 0 ≡ false = ne_eqb (length ns + 1) 0 (λ e. omega arith) in
    let b : any_of (ltb c 48 ∷ ltb 57 c ∷ []) ≡ false = search tests in
    let d : any_of (eqb (length ns + 1) 0 ∷ leb 10 k ∷ ltb 4_294_967_295 (further v c) ∷ []) ≡ false = search (tests, q) in
    at_digit (midway ns v k) c s b ∙ ap (λ o. with_scan (padded ns) o) (if_false _ _ _ d)

begins : turn (Some begun) 32 ≡ Some (midway [] 0 0)
unfolding step opened closed kept any_of if◌then◌otherwise◌
begins = refl

-- ------------------------------------------------------------------ a line of numbers is read

further_grows : (w : List ℕ) (n : ℕ) → n ≤ foldl further n w
unfolding further
further_grows [] n = omega arith
further_grows (c ∷ w) n = omega (arith, further_grows w (further n c))

-- the digits of a word
reads_word : (w ns : List ℕ) (v k : ℕ) → every is_digit w ≡ true → k + length w ≤ 10 → foldl further v w ≤ 4_294_967_295
    → foldl turn (Some (midway ns v k)) w ≡ Some (midway ns (foldl further v w) (k + length w))
unfolding every is_digit
reads_word [] ns v k d h m = rw (add-zero k)
reads_word (c ∷ w) ns v k d h m =
    let t = all_head (is_digit c) (map is_digit w) d in
    let a : 48 ≤ c = all_leb _ _ _ t in
    let z : c ≤ 57 = all_leb _ _ _ (all_tail _ _ t) in
    let g : further v c ≤ 4_294_967_295 = omega (arith, further_grows w (further v c)) in
    let n : k + suc (length w) ≡ k + 1 + length w = omega arith in
    ap (λ x. foldl turn x w) (digits_on ns v k c a z (omega arith) g) ∙ reads_word w ns (further v c) (k + 1) (all_tail _ _ d) (omega arith) m
    ∙ ap (λ x. Some (midway ns (foldl further (further v c) w) x)) (sym n)

-- what makes a word a number
pub one_digit : (w : List ℕ) → is_number w ≡ true → 1 ≤ length w
unfolding is_number
one_digit w e = all_leb _ _ _ e

pub ten_digits : (w : List ℕ) → is_number w ≡ true → length w ≤ 10
unfolding is_number
ten_digits w e = all_leb _ _ _ (all_tail _ _ e)

pub all_digits : (w : List ℕ) → is_number w ≡ true → every is_digit w ≡ true
unfolding is_number
all_digits w e = all_head _ _ (all_tail _ _ (all_tail _ _ e))

pub not_over : (w : List ℕ) → is_number w ≡ true → spelt w ≤ 4_294_967_295
unfolding is_number
not_over w e = all_leb _ _ _ (all_tail _ _ (all_tail _ _ (all_tail _ _ e)))

pub is_number_lem : (w : List ℕ) → 1 ≤ length w → length w ≤ 10 → every is_digit w ≡ true → spelt w ≤ 4_294_967_295 → is_number w ≡ true
unfolding is_number
is_number_lem w a b d e = search tests depth 10

-- where reading ends, with all numbers that were read
record Ended (r : Option Reading) (all : List ℕ) : Type 0 where
  before : List ℕ
  value : ℕ
  digits : ℕ
  few : length before < 5
  some : 0 < digits
  same : r ≡ Some (midway before value digits)
  are : before ++ (value ∷ []) ≡ all

reads_words : (ws : List (List ℕ)) (ns : List ℕ) (v k : ℕ) → 0 < k → every is_number ws ≡ true → length ns + length ws < 5
    → Ended (foldl turn (Some (midway ns v k)) (parted ws)) (ns ++ (v ∷ map spelt ws))
unfolding every parted spelt
reads_words [] ns v k h d l = record { before = ns; value = v; digits = k; few = omega arith; some = h; same = refl; are = refl }
reads_words (w ∷ ws) ns v k h d l =
    let n = all_head (is_number w) (map is_number ws) d in
    let m = length_snoc ns v in
    let word = reads_word w (ns ++ (v ∷ [])) 0 0 (all_digits w n) (omega (arith, ten_digits w n)) (not_over w n) in
    let rest = reads_words ws (ns ++ (v ∷ [])) (spelt w) (0 + length w) (omega (arith, one_digit w n)) (all_tail _ _ d) (omega arith) in
    record {
      before = rest.before;
      value = rest.value;
      digits = rest.digits;
      few = rest.few;
      some = rest.some;
      same =
          ap (λ x. foldl turn x (w ++ parted ws)) (opens ns v k h (omega arith)) ∙ foldl-append turn (Some (midway (ns ++ (v ∷ [])) 0 0)) w (parted ws)
          ∙ ap (λ x. foldl turn x (parted ws)) word ∙ rest.same;
      are = rest.are ∙ append_snoc ns v (spelt w ∷ map spelt ws);
    }

reads_line : (w : List ℕ) (ws : List (List ℕ)) → every is_number (w ∷ ws) ≡ true → length ws < 5 → Ended (foldl turn (Some begun) (parted (w ∷ ws))) (map spelt (w ∷ ws))
unfolding every parted spelt
reads_line w ws d l =
    let n = all_head (is_number w) (map is_number ws) d in
    let word = reads_word w [] 0 0 (all_digits w n) (omega (arith, ten_digits w n)) (not_over w n) in
    let rest = reads_words ws [] (spelt w) (0 + length w) (omega (arith, one_digit w n)) (all_tail _ _ d) (omega arith) in
    record {
      before = rest.before;
      value = rest.value;
      digits = rest.digits;
      few = rest.few;
      some = rest.some;
      same =
          ap (λ x. foldl turn x (w ++ parted ws)) begins ∙ foldl-append turn (Some (midway [] 0 0)) w (parted ws) ∙ ap (λ x. foldl turn x (parted ws)) word ∙ rest.same;
      are = rest.are;
    }

-- ------------------------------------------------------------------ what was read is a line of numbers

some_same : {A : Type 0} {x y : A} → Some x ≡ Some y → x ≡ y
some_same e = cc

-- what went wrong stays so
none_stays : (t : List ℕ) → foldl turn None t ≡ None
none_stays [] = refl
none_stays (c ∷ t) = none_stays t

went_on : (o : Option Reading) (t : List ℕ) (s : Reading) → foldl turn o t ≡ Some s → o ≡ None → ⊥
went_on o t s h e = none-some s (sym (none_stays t) ∙ ap (λ x. foldl turn x t) (sym e) ∙ h)

-- a test that went well
passed : {A : Type 0} (b : Bool) (x : A) (P : Type 0) → ((if b then None otherwise Some x) ≡ None → ⊥) → (b ≡ false → P) → P
passed true x P f p = absurd (f (if_true true None (Some x) refl))
passed false x P f p = p refl

-- why a space, and why a digit, was good
space_good : (ns : List ℕ) (v k : ℕ) → (turn (Some (midway ns v k)) 32 ≡ None → ⊥) → (0 < k) × (suc (length ns) < 5)
unfolding opened
space_good ns v k f =
    passed (any_of (eqb k 0 ∷ leb 5 (length ns + 1) ∷ [])) (record { count = length ns + 1 + 1; digits = 0; value = 0 }) ((0 < k) × (suc (length ns) < 5))
    (λ e. f (at_space (midway ns v k) ∙ ap (λ o. with_scan (closed (padded ns) (midway ns v k).scan) o) e))
    (λ b.
    let z : (k ≡ 0) → ⊥ = λ e. false≢true (sym (any_head _ _ b) ∙ eq-eqb k 0 e) in
    let n : length ns + 1 < 5 = leb-false 5 (length ns + 1) (any_head _ _ (any_tail _ _ b)) in
    (omega arith, omega arith))

-- a byte that is no space is a digit
is_one : (r : Reading) (c : ℕ) → eqb c 32 ≡ false → (turn (Some r) c ≡ None → ⊥) → any_of (ltb c 48 ∷ ltb 57 c ∷ []) ≡ false
is_one r c e f = go (any_of (ltb c 48 ∷ ltb 57 c ∷ [])) refl
  where
    go : (b : Bool) → any_of (ltb c 48 ∷ ltb 57 c ∷ []) ≡ b → b ≡ false
    go true d = absurd (f (at_other r c e d))
    go false d = refl

digit_good : (ns : List ℕ) (v k c : ℕ) → eqb c 32 ≡ false → (turn (Some (midway ns v k)) c ≡ None → ⊥) → (48 ≤ c) × (c ≤ 57) × (k < 10) × (further v c ≤ 4_294_967_295)
unfolding digit
digit_good ns v k c e f =
    let d = is_one (midway ns v k) c e f in
    passed (any_of (eqb (length ns + 1) 0 ∷ leb 10 k ∷ ltb 4_294_967_295 (further v c) ∷ []))
    (record { count = length ns + 1; digits = k + 1; value = further v c })
    ((48 ≤ c) × (c ≤ 57) × (k < 10) × (further v c ≤ 4_294_967_295))
    (λ q. f (at_digit (midway ns v k) c e d ∙ ap (λ o. with_scan (padded ns) o) q))
    (λ b. (
      ltb-false c 48 (any_head _ _ d),
      ltb-false 57 c (any_head _ _ (any_tail _ _ d)),
      leb-false 10 k (any_head _ _ (any_tail _ _ b)),
      ltb-false 4_294_967_295 (further v c) (any_head _ _ (any_tail _ _ (any_tail _ _ b))),
    ))

-- the number that is open and those behind it, and how bytes spell them
record Spelt (t : List ℕ) (ns : List ℕ) (v k : ℕ) (r : Option Reading) : Type 0 where
  word : List ℕ
  words : List (List ℕ)
  written : t ≡ word ++ parted words
  digits : every is_digit word ≡ true
  some : 1 ≤ k + length word
  few : k + length word ≤ 10
  fits : foldl further v word ≤ 4_294_967_295
  numbers : every is_number words ≡ true
  end : Ended r (ns ++ (foldl further v word ∷ map spelt words))

-- a word of which so much is known is a number
whole : (t ns : List ℕ) (r : Option Reading) (p : Spelt t ns 0 0 r) → is_number p.word ≡ true
unfolding spelt
whole t ns r p = is_number_lem p.word (omega (arith, p.some)) (omega (arith, p.few)) p.digits p.fits

after_space : (t ns : List ℕ) (v k : ℕ) (r : Option Reading) → 0 < k → k ≤ 10 → v ≤ 4_294_967_295 → Spelt t (ns ++ (v ∷ [])) 0 0 r → Spelt (32 ∷ t) ns v k r
unfolding every parted spelt
after_space t ns v k r h f m p =
    let e = p.end in
    record {
      word = [];
      words = p.word ∷ p.words;
      written = ap (λ l. 32 ∷ l) p.written;
      digits = all_empty;
      some = omega arith;
      few = omega arith;
      fits = m;
      numbers = all_yes _ _ (whole t (ns ++ (v ∷ [])) r p) p.numbers;
      end = subst (λ l. Ended r l) (append_snoc ns v (spelt p.word ∷ map spelt p.words)) e;
    }

after_digit : (t ns : List ℕ) (v k c : ℕ) (r : Option Reading) → 48 ≤ c → c ≤ 57 → Spelt t ns (further v c) (k + 1) r → Spelt (c ∷ t) ns v k r
unfolding every is_digit
after_digit t ns v k c r a z p =
    record {
      word = c ∷ p.word;
      words = p.words;
      written = ap (λ l. c ∷ l) p.written;
      digits = all_yes _ _ (all_yes _ _ (le-leb _ _ a) (all_yes _ _ (le-leb _ _ z) all_empty)) p.digits;
      some = omega (arith, p.some);
      few = omega (arith, p.few);
      fits = p.fits;
      numbers = p.numbers;
      end = p.end;
    }

at_end : (ns : List ℕ) (v k : ℕ) (s : Reading) → length ns < 5 → v ≤ 4_294_967_295 → k ≤ 10 → Some (midway ns v k) ≡ Some s → (s.scan.digits ≡ 0 → ⊥)
    → Spelt [] ns v k (Some (midway ns v k))
unfolding every parted
at_end ns v k s l m h e d =
    let q : k ≡ s.scan.digits = ap (λ x. x.scan.digits) (some_same e) in
    let z : (k ≡ 0) → ⊥ = λ y. d (sym q ∙ y) in
    record {
      word = [];
      words = [];
      written = refl;
      digits = all_empty;
      some = omega arith;
      few = omega arith;
      fits = m;
      numbers = all_empty;
      end = record { before = ns; value = v; digits = k; few = l; some = omega arith; same = refl; are = refl };
    }

spells : (t ns : List ℕ) (v k : ℕ) (s : Reading) → length ns < 5 → v ≤ 4_294_967_295 → k ≤ 10
    → foldl turn (Some (midway ns v k)) t ≡ Some s → (s.scan.digits ≡ 0 → ⊥) → Spelt t ns v k (foldl turn (Some (midway ns v k)) t)
spells [] ns v k s l m h g d = at_end ns v k s l m h g d
spells (c ∷ t) ns v k s l m h g d =
    if_arms (λ (_ : Bool). Spelt (c ∷ t) ns v k (foldl turn (turn (Some (midway ns v k)) c) t)) (eqb c 32) {x = true} {y = true}
    (λ q.
    let w : c ≡ 32 = eqb-true c 32 q in
    let g1 = subst (λ x. foldl turn (turn (Some (midway ns v k)) x) t ≡ Some s) w g in
    let b = space_good ns v k (went_on _ t s g1) in
    let o = opens ns v k b.0 b.1 in
    subst (λ x. Spelt (x ∷ t) ns v k (foldl turn (turn (Some (midway ns v k)) x) t)) (sym w)
    (subst (λ x. Spelt (32 ∷ t) ns v k (foldl turn x t)) (sym o)
    (after_space t ns v k _ b.0 h m
    (spells t (ns ++ (v ∷ [])) 0 0 s (omega (arith, length_snoc ns v, b.1)) (omega arith) (omega arith) (subst (λ x. foldl turn x t ≡ Some s) o g1) d))))
    (λ q.
    let b = digit_good ns v k c q (went_on _ t s g) in
    let o = digits_on ns v k c b.0 b.1 b.2 b.3 in
    subst (λ x. Spelt (c ∷ t) ns v k (foldl turn x t)) (sym o)
    (after_digit t ns v k c _ b.0 b.1 (spells t ns (further v c) (k + 1) s l b.3 (omega (arith, b.2)) (subst (λ x. foldl turn x t ≡ Some s) o g) d)))

-- ------------------------------------------------------------------ a whole line

-- no letter of a table has more numbers than five, where no row has
most_of : (rows : List Row) (letter : ℕ) → every (λ row. leb row.numbers 5) rows ≡ true → numbers_in rows letter ≤ 5
unfolding numbers_in every
most_of [] letter e = omega arith
most_of (row ∷ rows) letter e =
    if_arms (λ n. n ≤ 5) (eqb letter row.letter) (λ q. leb-true _ _ (all_head _ _ e)) (λ q. most_of rows letter (all_tail _ _ e))

pub at_most_five : (letter : ℕ) → numbers_after letter ≤ 5
unfolding every all_of if◌then◌otherwise◌
at_most_five letter = most_of table letter refl

-- as many numbers as are wanted
wanted_some : (letter : ℕ) → 0 < numbers_after letter → wanted letter ≡ Some (numbers_after letter)
unfolding wanted
wanted_some letter h = if_false _ _ _ (ne_eqb (numbers_after letter) 0 (λ e. omega arith))

wanted_is : (letter n : ℕ) → wanted letter ≡ Some n → (n ≡ numbers_after letter) × (0 < numbers_after letter)
unfolding wanted
wanted_is letter n e =
    passed (eqb (numbers_after letter) 0) (numbers_after letter) ((n ≡ numbers_after letter) × (0 < numbers_after letter))
    (λ q. none-some n (sym q ∙ e))
    (λ b. (sym (some_same (sym (if_false _ _ _ b) ∙ e)), pos_of_ne-zero (λ z. false≢true (sym b ∙ eq-eqb (numbers_after letter) 0 z))))

many_enough : (letter want : ℕ) (ns : List ℕ) (v k : ℕ) → length ns < 5 → 0 < k → length (ns ++ (v ∷ [])) ≡ want
    → finished letter want (midway ns v k) ≡ Some (record { letter = letter; numbers = padded (ns ++ (v ∷ [])) })
unfolding finished
many_enough letter want ns v k l h e =
    let s = length_snoc ns v in
    let d : eqb k 0 ≡ false = ne_eqb k 0 (λ z. omega arith) in
    let m : not (eqb (length ns + 1) want) ≡ false = eq_not (length ns + 1) want (omega arith) in
    if_false _ _ _ (any_not _ _ m (any_not _ _ d any_empty)) ∙ ap (λ l. Some (record { letter = letter; numbers = l })) (closes ns v k l)

-- what stands in a line, by the numbers that its words spell
by_numbers : (letter : ℕ) (words : List (List ℕ)) → ◌≡◌ {A = Line} (record { letter = letter; numbers = padded (map spelt words) }) (line_of letter words)
by_numbers letter words = rw (length-map words spelt)

ended_line : (letter : ℕ) (words : List (List ℕ)) (o : Option Reading) → Ended o (map spelt words) → length words ≡ numbers_after letter
    → 0 < numbers_after letter → ended letter (wanted letter) o ≡ Some (line_of letter words)
ended_line letter words o e m h =
    let n : length (e.before ++ (e.value ∷ [])) ≡ numbers_after letter = ap length e.are ∙ length-map words spelt ∙ m in
    ap (λ x. ended letter x o) (wanted_some letter h) ∙ ap (λ x. ended letter (Some (numbers_after letter)) x) e.same
    ∙ many_enough letter (numbers_after letter) e.before e.value e.digits e.few e.some n
    ∙ ap (λ l. Some (record { letter = letter; numbers = padded l })) e.are ∙ ap (λ l. Some l) (by_numbers letter words)

scanned_cons : (letter : ℕ) (t : List ℕ) → scanned (letter ∷ t) ≡ ended letter (wanted letter) (foldl turn (Some begun) t)
unfolding scanned
scanned_cons letter t = refl

-- a line is read as what stands in it
pub scanned_line : (text : List ℕ) (letter : ℕ) (words : List (List ℕ)) → IsLine text letter words → scanned text ≡ Some (line_of letter words)
scanned_line text letter [] p = absurd (omega (arith, p.many, p.known))
scanned_line text letter (w ∷ ws) p =
    let few : length ws < 5 = omega (arith, at_most_five letter, p.many) in
    ap scanned p.written ∙ scanned_cons letter (parted (w ∷ ws)) ∙ ended_line letter (w ∷ ws) _ (reads_line w ws p.numbers few) p.many p.known

-- a digit right behind the letter is wrong
not_behind_letter : (c : ℕ) → eqb c 32 ≡ false → turn (Some begun) c ≡ None
unfolding digit
not_behind_letter c e = go (any_of (ltb c 48 ∷ ltb 57 c ∷ [])) refl
  where
    go : (b : Bool) → any_of (ltb c 48 ∷ ltb 57 c ∷ []) ≡ b → turn (Some begun) c ≡ None
    go true d = at_other begun c e d
    go false d = at_digit begun c e d ∙ ap (λ o. with_scan begun.numbers o) (if_true _ _ _ (any_here _ _ refl))

-- what was read behind a letter are words
record Words (t : List ℕ) (r : Option Reading) : Type 0 where
  words : List (List ℕ)
  written : t ≡ parted words
  numbers : every is_number words ≡ true
  end : Ended r (map spelt words)

opened_words : (t : List ℕ) (r : Option Reading) → Spelt t [] 0 0 r → Words (32 ∷ t) r
unfolding every parted spelt
opened_words t r p = record {
  words = p.word ∷ p.words;
  written = ap (λ l. 32 ∷ l) p.written;
  numbers = all_yes _ _ (whole t [] r p) p.numbers;
  end = p.end;
}

behind_letter : (t : List ℕ) (s : Reading) → foldl turn (Some begun) t ≡ Some s → (s.scan.digits ≡ 0 → ⊥) → (s.scan.count ≡ 0 → ⊥) → Words t (foldl turn (Some begun) t)
behind_letter [] s g d n = absurd (n (ap (λ x. x.scan.count) (some_same (sym g))))
behind_letter (c ∷ t) s g d n =
    if_arms (λ (_ : Bool). Words (c ∷ t) (foldl turn (turn (Some begun) c) t)) (eqb c 32) {x = true} {y = true}
    (λ e.
    let w : c ≡ 32 = eqb-true c 32 e in
    let o : turn (Some begun) c ≡ Some (midway [] 0 0) = ap (λ x. turn (Some begun) x) w ∙ begins in
    let g1 = subst (λ x. foldl turn x t ≡ Some s) o g in
    subst (λ x. Words (c ∷ t) (foldl turn x t)) (sym o)
    (subst (λ x. Words (x ∷ t) (foldl turn (Some (midway [] 0 0)) t)) (sym w)
    (opened_words t _ (spells t [] 0 0 s (omega arith) (omega arith) (omega arith) g1 d))))
    (λ e. absurd (went_on _ t s g (not_behind_letter c e)))

-- as many words as numbers were opened
by_count : (s : Reading) (ws : List (List ℕ)) → Ended (Some s) (map spelt ws) → length ws ≡ s.scan.count
by_count s ws e =
    let c : s.scan.count ≡ length e.before + 1 = ap (λ x. x.scan.count) (some_same e.same) in
    let a : length (e.before ++ (e.value ∷ [])) ≡ length ws = ap length e.are ∙ length-map ws spelt in
    omega (arith, length_snoc e.before e.value)

-- a text that is read is a line
module _ (letter : ℕ) (t : List ℕ) (x : Line) where
  of_reading : (want : ℕ) (s : Reading) → wanted letter ≡ Some want → foldl turn (Some begun) t ≡ Some s → finished letter want s ≡ Some x → Reads (letter ∷ t) (Some x)
  unfolding finished
  of_reading want s f g h =
      passed (any_of (not (eqb s.scan.count want) ∷ eqb s.scan.digits 0 ∷ [])) (record { letter = letter; numbers = closed s.numbers s.scan }) (Reads (letter ∷ t) (Some x))
      (λ q. none-some x (sym q ∙ h))
      (λ e.
      let k = wanted_is letter want f in
      let many : s.scan.count ≡ want = eq_of_not s.scan.count want (any_head _ _ e) in
      let some : (s.scan.digits ≡ 0) → ⊥ = λ z. false≢true (sym (any_head _ _ (any_tail _ _ e)) ∙ eq-eqb s.scan.digits 0 z) in
      let w = behind_letter t s g some (λ z. omega arith) in
      let n : length w.words ≡ numbers_after letter = by_count s w.words (subst (λ o. Ended o (map spelt w.words)) g w.end) ∙ many ∙ k.0 in
      let l = ended_line letter w.words (foldl turn (Some begun) t) w.end n k.1 in
      let r = sym (ap (λ o. ended letter o (foldl turn (Some begun) t)) f ∙ ap (λ o. ended letter (Some want) o) g ∙ h) ∙ l in
      a_line letter w.words (record { written = ap (λ l. letter ∷ l) w.written; numbers = w.numbers; many = n; known = k.1 }) r)

  of_text : (o : Option ℕ) (r : Option Reading) → wanted letter ≡ o → foldl turn (Some begun) t ≡ r → ended letter o r ≡ Some x → Reads (letter ∷ t) (Some x)
  of_text None r f g h = absurd (none-some x h)
  of_text (Some want) None f g h = absurd (none-some x h)
  of_text (Some want) (Some s) f g h = of_reading want s f g h

-- a text is read as the line that it is, and as none where it is none
pub reads : (text : List ℕ) → Reads text (scanned text)
unfolding scanned
reads text = go text (scanned text) refl
  where
    go : (text : List ℕ) (o : Option Line) → scanned text ≡ o → Reads text o
    go text None e = no_line (λ l ws p. none-some _ (sym e ∙ scanned_line text l ws p)) refl
    go [] (Some x) e = absurd (none-some x e)
    go (letter ∷ t) (Some x) e = of_text letter t x (wanted letter) (foldl turn (Some begun) t) refl refl e

-- ------------------------------------------------------------------ what `read` gives

pub read_as : (text rest : List ℕ) (letter : ℕ) (want : Option ℕ) (o : Option Reading) (r : Option Line) → text ≡ letter ∷ rest → want ≡ wanted letter
    → o ≡ foldl turn (Some begun) rest → r ≡ ended letter want o → Reads text r
read_as text rest letter want o r e f g h =
    subst (λ t. Reads t r) (sym e)
    (subst (λ x. Reads (letter ∷ rest) x) (sym (h ∙ ap (λ x. ended letter x o) f ∙ ap (λ x. ended letter (wanted letter) x) g ∙ sym (scanned_cons letter rest))) (reads (letter ∷ rest)))

pub read_none : (text : List ℕ) (r : Option Line) → length text ≡ 0 → r ≡ None → Reads text r
unfolding scanned
read_none [] r h e = rw e (reads [])
read_none (c ∷ text) r h e = absurd (omega arith)

-- a turn of the loop
module _ (bytes : List ℕ) (s : Scan) (ns ms : List ℕ) (i n : ℕ) (w : Option Reading) (l : length bytes ≡ n) (h : i < n)
    (q : foldl turn (Some (record { scan = s; numbers = ns })) (drop i bytes) ≡ w) (e : ms ≡ kept (record { scan = s; numbers = ns }) (get_or bytes i 0)) where
  pub turned : (t : Scan) → step s (get_or bytes i 0) ≡ Some t → foldl turn (Some (record { scan = t; numbers = ms })) (drop (i + 1) bytes) ≡ w
  turned t f = fold_turn turn bytes 0 (Some (record { scan = s; numbers = ns })) _ w n i l h (rw (e, f)) q

  pub failed : (r : Option Reading) → step s (get_or bytes i 0) ≡ None → r ≡ None → r ≡ w
  failed r f g =
      g ∙ sym (none_stays (drop (i + 1) bytes))
      ∙ fold_turn turn bytes 0 (Some (record { scan = s; numbers = ns })) None w n i l h (rw f) q

pub kept_other : (r : Reading) (c : ℕ) (ms : List ℕ) → (c ≡ 32 → ⊥) → ms ≡ r.numbers → ms ≡ kept r c
unfolding kept
kept_other r c ms h e = e ∙ sym (if_false _ _ _ (ne_eqb c 32 h))

pub kept_closed : (r : Reading) (c : ℕ) (ms : List ℕ) → c ≡ 32 → ms ≡ closed r.numbers r.scan → ms ≡ kept r c
unfolding kept
kept_closed r c ms h e = e ∙ sym (if_true _ _ _ (eq-eqb c 32 h))
