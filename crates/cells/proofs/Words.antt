-- A cell in range comes back from its word, and a word comes back from the cell that it holds.
use Rattle.std.proofs.Common.{◌≡◌, ℕ, zero, suc, ◌+◌, ◌-◌, ◌*◌, ◌/◌, ◌%◌, ◌^◌, ◌<◌, ◌≤◌, Bool, true, false, cond, ◌&&◌, ltb, leb, pos, negsuc, Ok, Err, sym, refl, ap, ◌∙◌, ap₂, arith}
use Rattle.std.proofs.lemmas.Bool.{lt-ltb, le-ltb, ltb-true, ltb-false, leb-true, le-leb, and_parts}
use Rattle.cells.specs.declared.cell.Cell.{Cell}
use Rattle.cells.specs.declared.cell.Cell.TheVariants.{Reference, Pointer, Functor, Atom, Integer}
use Rattle.cells.specs.declared.refusal.Refusal.TheVariants.{OutOfRange}
use Rattle.cells.specs.Cells.{bits29, signed29, word_of, cell_of, cell_of_kind, in_range, decoded}
use Rattle.cells.specs.Laws.{DecodeEncoded, EncodeDecoded}

cell_of_parts : (k v w : ℕ) → w % 8 ≡ k → w / 8 ≡ v → cell_of w ≡ cell_of_kind k v
cell_of_parts k v w p q = ap₂ cell_of_kind p q

signed29_low : (v : ℕ) → v < 2 ^ 28 → signed29 v ≡ pos v
signed29_low v h = ap (λ (b : Bool). cond b (pos v) (negsuc (2 ^ 29 - 1 - v))) (lt-ltb v (2 ^ 28) h)

signed29_high : (v : ℕ) → 2 ^ 28 ≤ v → signed29 v ≡ negsuc (2 ^ 29 - 1 - v)
signed29_high v h = ap (λ (b : Bool). cond b (pos v) (negsuc (2 ^ 29 - 1 - v))) (le-ltb v (2 ^ 28) h)

pub cell_of_word_of : (c : Cell) → in_range c ≡ true → cell_of (word_of c) ≡ c
cell_of_word_of (Reference n) h = cell_of_parts 0 n (n * 8) (omega arith) (omega arith)
cell_of_word_of (Pointer n) h = cell_of_parts 1 n (n * 8 + 1) (omega arith) (omega arith)
cell_of_word_of (Functor f a) h =
    let small : a ≤ 32 = leb-true a 32 (and_parts _ (leb a 32) (and_parts _ (ltb 0 a && leb a 32) h).1).1 in
    cell_of_parts 2 (f * 64 + a) ((f * 64 + a) * 8 + 2) (omega arith) (omega arith) ∙ ap₂ Functor (omega arith) (omega arith)
cell_of_word_of (Atom n) h = cell_of_parts 3 n (n * 8 + 3) (omega arith) (omega arith)
cell_of_word_of (Integer (pos n)) h =
    cell_of_parts 4 n (n * 8 + 4) (omega arith) (omega arith) ∙ ap Integer (signed29_low n (ltb-true n (2 ^ 28) h))
cell_of_word_of (Integer (negsuc n)) h =
    let small : n < 2 ^ 28 = ltb-true n (2 ^ 28) h in
    cell_of_parts 4 (2 ^ 29 - suc n) ((2 ^ 29 - suc n) * 8 + 4) (omega arith) (omega arith)
    ∙ ap Integer (signed29_high (2 ^ 29 - suc n) (omega arith) ∙ ap negsuc (omega arith))

-- the word of a cell is of one of the five kinds
kind_word_of : (c : Cell) → leb (word_of c % 8) 4 ≡ true
kind_word_of (Reference n) = le-leb (n * 8 % 8) 4 (omega arith)
kind_word_of (Pointer n) = le-leb ((n * 8 + 1) % 8) 4 (omega arith)
kind_word_of (Functor f a) = le-leb (((f * 64 + a) * 8 + 2) % 8) 4 (omega arith)
kind_word_of (Atom n) = le-leb ((n * 8 + 3) % 8) 4 (omega arith)
kind_word_of (Integer z) = le-leb ((bits29 z * 8 + 4) % 8) 4 (omega arith)

pub decode_encoded : DecodeEncoded
decode_encoded c h =
    ap₂ (λ (b : Bool) (d : Cell). cond (b && in_range d) (Ok d) (Err OutOfRange)) (kind_word_of c) (cell_of_word_of c h)
    ∙ ap (λ (b : Bool). cond b (Ok c) (Err OutOfRange)) h

bits29_signed29 : (v : ℕ) → v < 2 ^ 29 → bits29 (signed29 v) ≡ v
bits29_signed29 v h = by_test (ltb v (2 ^ 28)) refl
  where
    by_test : (b : Bool) → ltb v (2 ^ 28) ≡ b → bits29 (signed29 v) ≡ v
    by_test true e = ap bits29 (signed29_low v (ltb-true v (2 ^ 28) e))
    by_test false e =
        let high : 2 ^ 28 ≤ v = ltb-false v (2 ^ 28) e in
        ap bits29 (signed29_high v high) ∙ omega arith

word_of_kind : (k v : ℕ) → k ≤ 4 → v < 2 ^ 29 → word_of (cell_of_kind k v) ≡ v * 8 + k
word_of_kind zero v k4 h = omega arith
word_of_kind (suc zero) v k4 h = refl
word_of_kind (suc (suc zero)) v k4 h = omega arith
word_of_kind (suc (suc (suc zero))) v k4 h = refl
word_of_kind (suc (suc (suc (suc k)))) v k4 h =
    let z : k ≡ 0 = omega arith in
    ap (λ b. b * 8 + 4) (bits29_signed29 v h) ∙ omega arith

pub word_of_cell_of : (w : ℕ) → w < 2 ^ 32 → leb (w % 8) 4 ≡ true → word_of (cell_of w) ≡ w
word_of_cell_of w h k = word_of_kind (w % 8) (w / 8) (leb-true (w % 8) 4 k) (omega arith) ∙ omega arith

-- a word that decodes is of a kind and in range, and holds what it says
pub decoded_says : (w : ℕ) (c : Cell) → decoded w ≡ Ok c → (leb (w % 8) 4 ≡ true) × (in_range c ≡ true) × (cell_of w ≡ c)
decoded_says w c e = by_test (leb (w % 8) 4 && in_range (cell_of w)) refl
  where
    by_test : (b : Bool) → (leb (w % 8) 4 && in_range (cell_of w)) ≡ b → (leb (w % 8) 4 ≡ true) × (in_range c ≡ true) × (cell_of w ≡ c)
    by_test true t =
        let parts = and_parts (leb (w % 8) 4) (in_range (cell_of w)) t in
        let is : decoded w ≡ Ok (cell_of w) = ap (λ (b : Bool). cond b (Ok (cell_of w)) (Err OutOfRange)) t in
        let same : cell_of w ≡ c = cc in
        (parts.0, sym (ap in_range same) ∙ parts.1, same)
    by_test false t =
        let is : decoded w ≡ Err OutOfRange = ap (λ (b : Bool). cond b (Ok (cell_of w)) (Err OutOfRange)) t in
        let z : ◌≡◌ {A = ℕ} 0 1 = cc in
        absurd (omega arith)

pub encode_decoded : EncodeDecoded
encode_decoded w c h e =
    let says = decoded_says w c e in
    ap (λ (b : Bool). cond b (Ok (word_of c)) (Err OutOfRange)) says.1
    ∙ ap Ok (sym (ap word_of says.2) ∙ word_of_cell_of w h says.0)
