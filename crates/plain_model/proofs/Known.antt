-- What is known of a book stays known as it grows.
use Rattle.std.proofs.Common.{arith, ◌≡◌, ℕ, zero, suc, List, ◌++◌, Option, Some, None, refl, ap, ◌∙◌}
use Rattle.std.proofs.Math.Path.{ap₂}
use Rattle.mrp_types.specs.declared.id.RingId.{RingId}
use Rattle.mrp_types.specs.declared.value.Entry.{Entry}
use Rattle.mrp_types.specs.declared.value.Value.{Value}
use Rattle.mrp_types.specs.Book.{Learning, book_of}
use Rattle.plain_model.specs.Tuples.{first_tuple, next_place, past}
use Rattle.plain_model.specs.Fold.{entries_in_book, entries_known, both_known, entries_of_next, entries_below, count_below, rings_of}
use Rattle.plain_model.proofs.Fronts.{book_of-more}

-- a value that the book has, it has as it grows
value_more : (known more : List Learning) (ring : RingId) (inst : ℕ) (v : Option Value) (es : List Entry) → book_of known ring inst ≡ v →
    entries_in_book v ≡ Some es → entries_in_book (book_of (known ++ more) ring inst) ≡ Some es
value_more known more ring inst None es e h = absurd (grind arith)
value_more known more ring inst (Some v) es e h = ap entries_in_book (book_of-more known more ring inst v e) ∙ h

place_more : (known more : List Learning) (place : RingId × ℕ) (es : List Entry) → entries_known known place ≡ Some es → entries_known (known ++ more) place ≡ Some es
place_more known more place es h = value_more known more place.0 place.1 (book_of known place.0 place.1) es refl h

both_more : (a b c d : Option (List Entry)) (es : List Entry) → ((xs : List Entry) → a ≡ Some xs → c ≡ Some xs) → ((xs : List Entry) → b ≡ Some xs → d ≡ Some xs) →
    both_known a b ≡ Some es → both_known c d ≡ Some es
both_more None b c d es first second h = absurd (grind arith)
both_more (Some xs) None c d es first second h = absurd (grind arith)
both_more (Some xs) (Some ys) c d es first second h = ap₂ both_known (first xs refl) (second ys refl) ∙ h

next_more : (m : ℕ → ℕ) (known more : List Learning) (n : ℕ) (tuple : List (RingId × ℕ)) (es : List Entry) → entries_of_next m known n tuple ≡ Some es →
    entries_of_next m (known ++ more) n tuple ≡ Some es
next_more m known more zero tuple es h = h
next_more m known more (suc n) tuple es h = both_more (entries_known known (next_place m tuple)) (entries_of_next m known n (past m tuple))
    (entries_known (known ++ more) (next_place m tuple)) (entries_of_next m (known ++ more) n (past m tuple)) es
    (λ xs e. place_more known more (next_place m tuple) xs e) (λ xs e. next_more m known more n (past m tuple) xs e) h

pub below_more : (m : ℕ → ℕ) (known more : List Learning) (tuple : List (RingId × ℕ)) (es : List Entry) → entries_below m known tuple ≡ Some es →
    entries_below m (known ++ more) tuple ≡ Some es
unfolding entries_below
below_more m known more tuple es h = next_more m known more (count_below tuple) (first_tuple (rings_of tuple)) es h
