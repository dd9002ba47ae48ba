-- Steps that may be refused.
use Rattle.std.proofs.Common.{◌≡◌, ◌⊎◌, Bool, true, false, cond, Result, Ok, Err, refl, inl, inr}
use Rattle.snmp_trap.specs.declared.refusal.Refusal.{Refusal}
use Rattle.snmp_trap.specs.Reading.{◌>>=◌}

-- the value of a step that wasn't refused
pub bind_ok : {A B : Type 0} (r : Result A Refusal) (f : A → Result B Refusal) (y : B) → (r >>= f) ≡ Ok y → (x : A) × (r ≡ Ok x) × (f x ≡ Ok y)
bind_ok (Ok x) f y e = (x, refl, e)
bind_ok (Err d) f y e = absurd cc

-- the step that was refused: the first, or the one behind it
pub bind_err : {A B : Type 0} (r : Result A Refusal) (f : A → Result B Refusal) (d : Refusal) → (r >>= f) ≡ Err d → (r ≡ Err d) ⊎ ((x : A) × (r ≡ Ok x) × (f x ≡ Err d))
bind_err (Ok x) f d e = inr (x, refl, e)
bind_err (Err c) f d e = inl cc

pub either : {A : Type 0} (r : Result A Refusal) → ((x : A) × (r ≡ Ok x)) ⊎ ((d : Refusal) × (r ≡ Err d))
either (Ok x) = inl (x, refl)
either (Err d) = inr (d, refl)

abbrev okay : {A : Type 0} → A → Result A Refusal
okay x = Ok x

abbrev refused : {A : Type 0} → Refusal → Result A Refusal
refused d = Err d

pub ok_is : {A : Type 0} (x y : A) → okay x ≡ okay y → x ≡ y
ok_is x y e = cc

pub err_is : {A : Type 0} (c d : Refusal) → refused {A = A} c ≡ refused d → c ≡ d
err_is c d e = cc

pub ok-err : {A : Type 0} (x : A) (d : Refusal) → okay x ≡ refused d → ⊥
ok-err x d e = cc

-- which way a test went
pub chosen : {A : Type 0} (b : Bool) (x y z : A) → cond b x y ≡ z → ((b ≡ true) × (x ≡ z)) ⊎ ((b ≡ false) × (y ≡ z))
chosen true x y z e = inl (refl, e)
chosen false x y z e = inr (refl, e)
