-- Bytes that are put one after another.
use Rattle.std.proofs.Common.{◌≡◌, ℕ, ◌+◌, ◌≤◌, List, ◌++◌, length, take, drop, sym, refl, ap, ◌∙◌, arith, length-append}
use Rattle.std.proofs.lemmas.List.{append-nil, drop_all}
use Rattle.std.proofs.lemmas.List.Edits.{paste_all, paste-paste}
use Rattle.blockfile.specs.Writing.{put_at}

-- bytes that are as many as stood there
pub put_whole : (bytes old : List ℕ) → length bytes ≡ length old → put_at 0 bytes old ≡ bytes
put_whole bytes old e = ap (λ ys. bytes ++ ys) (drop_all (0 + length bytes) old (omega arith)) ∙ append-nil bytes

-- bytes behind bytes
pub put_more : (at next : ℕ) (a b old mid new : List ℕ) → at ≤ length old → next ≡ at + length a → mid ≡ put_at at a old → new ≡ put_at next b mid → new ≡ put_at at (a ++ b) old
put_more at next a b old mid new h en em e =
    let n = length-append a b in
    e ∙ ap (λ ys. put_at next b ys) em ∙ ap (λ i. put_at i b (put_at at a old)) en
    ∙ sym (paste_all (put_at at a old) (at + length a) b (length b) refl)
    ∙ ap (λ ys. lib.Seq.paste ys (at + length a) b (length b)) (sym (paste_all old at a (length a) refl))
    ∙ paste-paste old at a b (length a) (length b) refl refl h
    ∙ paste_all old at (a ++ b) (length a + length b) (sym n)
    ∙ ap (λ i. take at old ++ ((a ++ b) ++ drop (at + i) old)) (sym n)
