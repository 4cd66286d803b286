-- A field that opens, and what it is made of.
use Rattle.std.proofs.Common.{◌≡◌, ℕ, suc, ◌+◌, ◌*◌, ◌/◌, ◌%◌, ◌<◌, true, cond, eqb, leb, List, [], ◌∷◌, ◌++◌, length, take, drop, Ok, Err, Result, sym, refl, ap, ◌∙◌, subst, arith, length-append, take-append-drop, eq-eqb, eqb-true, le-leb, leb-true}
use lib.Seq.{drop-append-add}
use Rattle.std.proofs.lemmas.List.{take_at, drop_at, length-take-le, get_or_append_left, get_or-append-add}
use Rattle.fault.specs.declared.FieldFault.{FieldFault}
use Rattle.fault.specs.declared.FieldFault.TheVariants.{Cut, Tag, Length}
use Rattle.blockfile.specs.Format.{two, field}
use Rattle.blockfile.specs.Reading.{opened}
use Rattle.blockfile.specs.Laws.{Bytes}
use Rattle.blockfile.proofs.Steps.{err_ok, cond_ok}
use Rattle.blockfile.proofs.Numbers.{pair_of_two, two_of_pair}

-- a header and a payload of that size, and what follows
pub record Opened (tag size : ℕ) (xs payload rest : List ℕ) : Type 0 where
  pub hi : ℕ
  pub lo : ℕ
  pub is : xs ≡ tag ∷ hi ∷ lo ∷ (payload ++ rest)
  pub sized : 256 * hi + lo ≡ size
  pub long : length payload ≡ size

pub opened_field : (total at tag size : ℕ) (payload rest : List ℕ) → length payload ≡ size → opened total at tag size (field tag payload ++ rest) ≡ Ok (payload, rest)
opened_field total at tag size payload rest e =
    let n = length payload in
    let t : eqb tag tag ≡ true = eq-eqb tag tag refl in
    let s : eqb (256 * (n / 256) + n % 256) size ≡ true = eq-eqb _ _ (pair_of_two n ∙ e) in
    let l : leb size (length (payload ++ rest)) ≡ true = le-leb _ _ (omega (arith, length-append payload rest)) in
    rw (t, s, l, take_at payload rest size e, drop_at payload rest size e)

pub opened_is : (total at tag size : ℕ) (xs : List ℕ) (p : List ℕ × List ℕ) → opened total at tag size xs ≡ Ok p → Opened tag size xs p.0 p.1
opened_is total at tag size [] p e = absurd (err_ok _ _ e)
opened_is total at tag size (_ ∷ []) p e = absurd (err_ok _ _ e)
opened_is total at tag size (_ ∷ _ ∷ []) p e = absurd (err_ok _ _ e)
opened_is total at tag size (t ∷ hi ∷ lo ∷ rest) p e =
    let parts : Result (List ℕ × List ℕ) FieldFault = Ok (take size rest, drop size rest) in
    let within = cond (leb size (length rest)) parts (Err (Cut total)) in
    let e1 = cond_ok (eqb t tag) (cond (eqb (256 * hi + lo) size) within (Err (Length (suc at)))) (Tag at) p e in
    let e2 = cond_ok (eqb (256 * hi + lo) size) within (Length (suc at)) p e1.1 in
    let e3 = cond_ok (leb size (length rest)) parts (Cut total) p e2.1 in
    let split : parts ≡ Ok p = e3.1 in
    let tagged : t ≡ tag = eqb-true t tag e1.0 in
    let front : take size rest ≡ p.0 = cc in
    let back : drop size rest ≡ p.1 = cc in
    let whole : take size rest ++ drop size rest ≡ rest = take-append-drop size rest in
    record {
      hi = hi;
      lo = lo;
      is = cc;
      sized = eqb-true _ _ e2.0;
      long = sym (ap length front) ∙ length-take-le size rest (leb-true _ _ e3.0);
    }

-- what opens is the field of its payload
pub opened_written : (tag size : ℕ) (xs payload rest : List ℕ) → Bytes xs → Opened tag size xs payload rest → field tag payload ++ rest ≡ xs
opened_written tag size xs payload rest small o =
    let b = subst Bytes o.is small in
    let low : o.lo < 256 = b 2 (omega arith) in
    let n : length payload ≡ 256 * o.hi + o.lo = o.long ∙ sym o.sized in
    ap (λ h. tag ∷ ((h ++ payload) ++ rest)) (ap two n ∙ two_of_pair o.hi o.lo low) ∙ sym o.is

pub opened_bytes : (tag size : ℕ) (xs payload rest : List ℕ) → Bytes xs → Opened tag size xs payload rest → Bytes payload × Bytes rest
opened_bytes tag size xs payload rest small o =
    let b = subst Bytes o.is small in
    let n = length-append payload rest in (
      λ k h. subst (λ x. x < 256) (get_or_append_left payload rest 0 k h) (b (suc (suc (suc k))) (omega arith)),
      λ k h. subst (λ x. x < 256) (get_or-append-add payload rest k 0) (b (suc (suc (suc (length payload + k)))) (omega arith)),
    )

-- what follows an opened field, further on in the bytes
pub opened_drop : (tag size : ℕ) (xs payload rest : List ℕ) (i j : ℕ) → j ≡ 3 + size + i → Opened tag size xs payload rest → drop j xs ≡ drop i rest
opened_drop tag size xs payload rest i j e o =
    let n : j ≡ suc (suc (suc (length payload + i))) = omega (arith, o.long) in
    ap (λ k. drop k xs) n ∙ ap (drop (suc (suc (suc (length payload + i))))) o.is ∙ drop-append-add payload rest i

pub opened_payload : (tag size : ℕ) (xs payload rest : List ℕ) → Opened tag size xs payload rest → take size (drop 3 xs) ≡ payload
opened_payload tag size xs payload rest o = ap (λ ys. take size (drop 3 ys)) o.is ∙ take_at payload rest size o.long
