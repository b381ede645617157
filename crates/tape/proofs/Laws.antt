-- The laws of specs/Laws.antt.
-- Assumes nothing.
use Prim.Native.Nat.{ℕ, zero, suc, ◌+◌, ◌-◌, ◌*◌, ◌^◌, ◌/◌, ◌%◌, ◌≤◌, ◌<◌}
use mathlib.Core.Bool.{true}
use mathlib.Core.List.{List, [], ◌∷◌, ◌++◌, map, foldl-append}
use mathlib.Core.Path.{◌≡◌, refl, sym, ap, ◌∙◌}
use native.Mathlib.Nat.{mod-lt, mod-add-div}
use native.Mathlib.Omega.{arith}
use borrow.Author.Tests.{le-leb}
use lib.ListN.{length, take, replicate, length-append, length-map}
use lib.Seq.{take_at}
use Rattle.std.specs.Prelude.{Option, Some}
use Rattle.forms.specs.Choice.{if◌then◌otherwise◌, all_of, any_of}
use Rattle.forms.specs.Tables.{every}
use Rattle.forms.proofs.Choice.{all_head, all_tail, all_yes, all_empty}
use Rattle.forms.proofs.Promises.{agree}
use Rattle.tape.specs.Lines.{is_digit, further, spelt, is_number, parted, numbers_in, line_of, unread, Reads, index_of, to_feed}
use Rattle.tape.specs.Lines.Reads.{a_line, no_line}
use Rattle.tape.specs.Printing.{decimal, digits, ahead, printed, printing}
use Rattle.tape.specs.Scanning.{opened, digit, step, closed, kept, wanted, finished, scanned}
use Rattle.tape.specs.Examples.{right, words, AllRead, lines, ends, endings, FirstLine}
use Rattle.tape.specs.Laws.{ReadsBack, OneWay, NoLonger, SpeltIs, Laws}
use Rattle.tape.specs.declared.Line.{Line}
use Rattle.tape.proofs.Printing.{low, high, tenth, below_or_not}
use Rattle.tape.proofs.Words.{feed_is, line_is, read_as, digits_are, printed_is}
use Rattle.tape.proofs.Scanning.{is_number_lem, ten_digits, at_most_five, scanned_line, reads}
use Rattle.tape.proofs.Feeds.{every_append, line_ends}

-- ------------------------------------------------------------------ what printing wrote is read back

spelt_snoc : (w : List ℕ) (c : ℕ) → spelt (w ++ (c ∷ [])) ≡ further (spelt w) c
unfolding spelt
spelt_snoc w c = foldl-append further 0 w (c ∷ [])

spelt_decimal : (most n : ℕ) → n < 10 ^ most → spelt (decimal most n) ≡ n
unfolding decimal spelt further
spelt_decimal zero n h = omega arith
spelt_decimal (suc most) n h =
    below_or_not n (λ l. rw (low most n l) (omega arith))
    (λ k.
    let tens = spelt_decimal most (n / 10) (tenth n most h) in
    rw (high most n k, spelt_snoc (decimal most (n / 10)) (48 + n % 10)) (omega (arith, tens, mod-add-div n 10)))

-- one digit more than a tenth of it
decimal_few : (most k n : ℕ) → n < 10 ^ k → 1 ≤ k → length (decimal most n) ≤ k
unfolding decimal
decimal_few zero k n h l = omega arith
decimal_few (suc most) zero n h l = absurd (omega arith)
decimal_few (suc most) (suc k) n h l =
    below_or_not n (λ m. rw (low most n m) (omega arith))
    (λ m. rw (high most n m, length-append) (omega (arith, decimal_few most k (n / 10) (tenth n k h) (more k n h m))))
  where
    more : (k n : ℕ) → n < 10 ^ suc k → 10 ≤ n → 1 ≤ k
    more zero n h m = absurd (omega arith)
    more (suc k) n h m = omega arith

a_digit : (d : ℕ) → d < 10 → is_digit (48 + d) ≡ true
unfolding is_digit
a_digit d h = all_yes _ _ (le-leb 48 (48 + d) (omega arith)) (all_yes _ _ (le-leb (48 + d) 57 (omega arith)) all_empty)

decimal_digits : (most n : ℕ) → every is_digit (decimal most n) ≡ true
unfolding decimal every
decimal_digits zero n = all_empty
decimal_digits (suc most) n =
    below_or_not n (λ l. rw (low most n l) (all_yes _ _ (a_digit n l) all_empty))
    (λ k. rw (high most n k) (every_append is_digit (decimal most (n / 10)) ((48 + n % 10) ∷ []) (decimal_digits most (n / 10)) (all_yes _ _ (a_digit (n % 10) (mod-lt n (omega arith))) all_empty)))

decimal_some : (most n : ℕ) → 1 ≤ length (decimal (suc most) n)
decimal_some most n = below_or_not n (λ l. rw (low most n l) (omega arith)) (λ k. rw (high most n k, length-append) (omega arith))

read_back : (n : ℕ) → n ≤ 4_294_967_295 → ReadsBack n
unfolding digits
read_back n h =
    let e = spelt_decimal 20 n (omega arith) in
    record { number = is_number_lem (decimal 20 n) (decimal_some 19 n) (decimal_few 20 10 n (omega arith) (omega arith)) (decimal_digits 20 n) (omega arith); same = e }

-- ------------------------------------------------------------------ in one way only

-- what is promised of a text is what reading it byte by byte comes to
read_scanned : (text : List ℕ) (r : Option Line) → Reads text r → r ≡ scanned text
read_scanned text r (a_line l ws p e) = e ∙ sym (scanned_line text l ws p)
read_scanned text r (no_line f e) = e ∙ sym (none (scanned text) (reads text))
  where
    none : (s : Option Line) → Reads text s → s ≡ unread
    none s (a_line l ws p q) = absurd (f l ws p)
    none s (no_line g q) = q

one_way : OneWay
one_way text l m ws vs p q =
    let s : Some (line_of l ws) ≡ Some (line_of m vs) = sym (scanned_line text l ws p) ∙ scanned_line text m vs q in
    let e : line_of l ws ≡ line_of m vs = cc in
    let a : l ≡ m = ap (λ x. x.letter) e in
    let n : length ws ≡ length vs = p.many ∙ rw a (sym q.many) in
    let t = take_at (map spelt ws) (replicate (5 - length ws) 0) (length ws) (length-map ws spelt) in
    let u = take_at (map spelt vs) (replicate (5 - length vs) 0) (length ws) (length-map vs spelt ∙ sym n) in
    (a, sym t ∙ ap (λ x. take (length ws) x.numbers) e ∙ u)

-- ------------------------------------------------------------------ how long a line is

words_length : (ws : List (List ℕ)) → every is_number ws ≡ true → length (parted ws) ≤ 11 * length ws
unfolding every parted
words_length [] e = omega arith
words_length (w ∷ ws) e =
    rw (length-append w (parted ws)) (omega (arith, ten_digits w (all_head _ _ e), words_length ws (all_tail _ _ e)))

no_longer : NoLonger
no_longer text l ws p = rw p.written (omega (arith, words_length ws p.numbers, p.many, at_most_five l))

-- ------------------------------------------------------------------ the computed examples

words_are_right : every right words ≡ true
unfolding every right is_number is_digit spelt further all_of if◌then◌otherwise◌
words_are_right = refl

lines_are_read : AllRead lines
unfolding scanned wanted finished step opened digit closed kept numbers_in further any_of if◌then◌otherwise◌
lines_are_read = (reads _, (reads _, (reads _, (reads _, (reads _, (reads _, (reads _, (reads _, (reads _, (reads _, (reads _, (reads _, (reads _, (reads _, (reads _, (reads _, (reads _, tt)))))))))))))))))

feeds_end_lines : every ends endings ≡ true
unfolding every ends index_of all_of if◌then◌otherwise◌
feeds_end_lines = refl

first_line : FirstLine
unfolding printed ahead parted digits decimal if◌then◌otherwise◌
first_line = refl

spelt_is : SpeltIs
unfolding spelt further
spelt_is = (refl, spelt_snoc)

-- ------------------------------------------------------------------ all of them

pub laws : Laws
laws = record {
  feed_is = feed_is;
  line_is = line_is;
  read_as = read_as;
  spelt_is = spelt_is;
  digits_are = digits_are;
  printed_is = printed_is;
  read_back = read_back;
  one_way = one_way;
  ends_there = line_ends;
  no_longer = no_longer;
  words_are_right = words_are_right;
  lines_are_read = lines_are_read;
  feeds_end_lines = feeds_end_lines;
  first_line = first_line;
  read_determined = λ text r s p q. read_scanned text r p ∙ sym (read_scanned text s q);
  feed_determined = λ text. agree (to_feed text);
  unread_determined = agree unread;
  print_determined = λ bytes at stock time letter numbers. agree (printing bytes at stock time letter numbers);
}
