-- What it says of each row that none applies.
use Rattle.std.proofs.Common.{◌≡◌, ◌⊎◌, ℕ, ◌≤◌, Bool, true, false, not, ◌&&◌, ◌||◌, List, [], ◌∷◌, Option, Some, None, refl, inl, inr}
use Rattle.std.specs.Prelude.{nat_lt, ◌==◌, bytes_eq, if◌then◌else◌}
use Rattle.std.specs.Option.{option_or}
use Rattle.std.proofs.lemmas.Bool.{ltb-false, le-ltb}
use Rattle.std.proofs.lemmas.Bool.Decides.{Decides-eqb}
use Rattle.std.proofs.lemmas.Slice.Eq.{bytes_eq-Decides}
use Rattle.asf_rmcp.specs.declared.fault.FrameFault.{FrameFault}
use Rattle.asf_rmcp.specs.Refusals.{Row, first, fault}

passed_by : (b : Bool) (f : FrameFault) (more : Option FrameFault) → (if b then Some f else more) ≡ None → (b ≡ false) × (more ≡ None)
passed_by true f more e = absurd (cc)
passed_by false f more e = (refl, e)

abbrev pub NoneApplies : List Row → Type 0
NoneApplies [] = Unit {0}
NoneApplies (row ∷ rows) = (row.applies ≡ false) × NoneApplies rows

pub none_applies : (rows : List Row) → first rows ≡ None → NoneApplies rows
none_applies [] e = tt
none_applies (row ∷ rows) e = let h = passed_by row.applies (fault row.at row.why) (first rows) e in (h.0, none_applies rows h.1)

-- the same of groups of rows
pub both_pass : (a b : Option FrameFault) → option_or a b ≡ None → (a ≡ None) × (b ≡ None)
both_pass None b e = (refl, e)
both_pass (Some f) b e = absurd (cc)

pub either : (b : Bool) → (b ≡ true) ⊎ (b ≡ false)
either true = inl refl
either false = inr refl

-- what tests say
pub is_long : (n m : ℕ) → nat_lt n m ≡ false → m ≤ n
is_long n m e = ltb-false n m e

pub not_below : (n m : ℕ) → m ≤ n → nat_lt n m ≡ false
not_below n m h = le-ltb n m h

pub not_false : (b : Bool) → not b ≡ false → b ≡ true
not_false true e = refl
not_false false e = absurd (cc)

pub is_equal : (x y : ℕ) → not (x == y) ≡ false → x ≡ y
is_equal x y e = (Decides-eqb x y).0 (not_false (x == y) e)

pub same_octets : (x y : List ℕ) → not (bytes_eq x y) ≡ false → x ≡ y
same_octets x y e = (bytes_eq-Decides x y).0 (not_false (bytes_eq x y) e)

neither : (a b : Bool) → (not a && not b) ≡ false → (a ≡ true) ⊎ (b ≡ true)
neither true b e = inl refl
neither false true e = inr refl
neither false false e = absurd (cc)

-- one of two numbers
pub is_either : (x a b : ℕ) → (not (x == a) && not (x == b)) ≡ false → (x ≡ a) ⊎ (x ≡ b)
is_either x a b e = elim (neither (x == a) (x == b) e) [ inl h ↦ inl ((Decides-eqb x a).0 h) | inr h ↦ inr ((Decides-eqb x b).0 h) ]

or_false : (a b : Bool) → (a || b) ≡ false → (a ≡ false) × (b ≡ false)
or_false false b e = (refl, e)
or_false true b e = absurd (cc)

-- a number from least to most
pub within : (x least most : ℕ) → (nat_lt x least || nat_lt most x) ≡ false → (least ≤ x) × (x ≤ most)
within x least most e = let h = or_false (nat_lt x least) (nat_lt most x) e in (is_long x least h.0, is_long most x h.1)

pub equal : (x : ℕ) → (x == x) ≡ true
equal x = (Decides-eqb x x).1 refl
