-- The numbers of instances that pass a test, with more instances.
use Rattle.std.proofs.Common.{◌≡◌, ℕ, zero, suc, ◌+◌, ◌-◌, ◌<◌, ◌≤◌, Bool, true, false, cond, List, [], ◌∷◌, ◌++◌, length, length-take, map, drop, take, get_or, refl, sym, ap, subst, ◌∙◌, append-nil, append_assoc, arith}
use Rattle.std.specs.Prelude.{All, filter}
use Rattle.std.specs.List.{range_with_len}
use Rattle.std.proofs.lemmas.List.{at_drop_all, drop-append-le, take_more, get_or-drop, get_or_append_left, length-drop, get_or_push, length-map, length_push, map-append, map_push}
use Rattle.std.proofs.lemmas.List.Elements.{All-filter, All-tail}
use Rattle.pw_decl.proofs.FlatKept.{range_below}
use Rattle.pw_network.specs.declared.instance.Instance.{Instance as InstanceType}
use Rattle.pw_network.specs.inside.Held.{attachment}
use Rattle.pw_network.specs.Network.{Attached}
use Rattle.pw_network.specs.inside.Batches.{AddsInstances, numbers_past}
use Rattle.pw_network.specs.inside.Lists.{Listed, numbers_for}
use Rattle.pw_network.specs.Readers.{numbers_from}

-- ---- numbers that pass a test, of those in a row

cond_append : (b : Bool) (number : ℕ) (rest before last : List ℕ) → rest ≡ before ++ last →
    cond b (number ∷ rest) rest ≡ cond b (number ∷ before) before ++ last
cond_append true number rest before last same = ap (λ l. number ∷ l) same
cond_append false number rest before last same = same

-- one more
filter_more : (p : ℕ → Bool) (a n j : ℕ) → a + n ≡ j →
    filter p (range_with_len a (suc n)) ≡ filter p (range_with_len a n) ++ cond (p j) (j ∷ []) []
filter_more p a zero j is = let same : a ≡ j = omega arith in ap (λ k. cond (p k) (k ∷ []) []) same
filter_more p a (suc n) j is =
    cond_append (p a) a (filter p (range_with_len (a + 1) (suc n))) (filter p (range_with_len (a + 1) n)) (cond (p j) (j ∷ []) [])
    (filter_more p (a + 1) n j (omega arith))

-- two tests that agree there
filter_alike : (p q : ℕ → Bool) (a n : ℕ) → ((k : ℕ) → k < a + n → p k ≡ q k) → filter p (range_with_len a n) ≡ filter q (range_with_len a n)
filter_alike p q a zero alike = refl
filter_alike p q a (suc n) alike =
    (λ i. cond (alike a (omega arith) i) (a ∷ filter p (range_with_len (a + 1) n)) (filter p (range_with_len (a + 1) n)))
    ∙ ap (λ l. cond (q a) (a ∷ l) l) (filter_alike p q (a + 1) n (λ k within. alike k (omega arith)))

-- ---- one more instance

pub numbers_more : (test : Attached → Bool) (attached : List Attached) (x : Attached) (number : ℕ) → number ≡ length attached →
    numbers_from test (attached ++ x ∷ []) 0 ≡ numbers_from test attached 0 ++ cond (test x) (number ∷ []) []
numbers_more test attached x number is =
    let before : ℕ → Bool = λ k. get_or (map test attached) k false in
    let after : ℕ → Bool = λ k. get_or (map test (attached ++ x ∷ [])) k false in
    let many = length-map attached test in
    let more : length (attached ++ x ∷ []) - 0 ≡ suc number = let l = length_push attached x in omega arith in
    let as_many : number ≡ length attached - 0 = omega arith in
    let old : (k : ℕ) → k < 0 + number → after k ≡ before k = λ k within.
    ap (λ l. get_or l k false) (map_push test attached x)
    ∙ get_or_append_left (map test attached) (test x ∷ []) false k (omega arith) in
    let new : after number ≡ test x =
    ap (λ l. get_or l number false) (map_push test attached x)
    ∙ get_or_push (map test attached) (test x) false number (omega arith) in
    ap (λ n. filter after (range_with_len 0 n)) more
    ∙ filter_more after 0 number number (omega arith)
    ∙ (λ i. filter_alike after before 0 number old i ++ cond (new i) (number ∷ []) [])
    ∙ ap (λ n. filter before (range_with_len 0 n) ++ cond (test x) (number ∷ []) []) as_many

-- ---- one of the instances from a number on

-- what holds of all of them holds of it
pub holds_from : (P : InstanceType → Type 0) (instances : List InstanceType) (first number : ℕ) (x : InstanceType) →
    first ≤ number → number < length instances → x ≡ get_or instances number x → All P (drop first instances) → P x
holds_from P instances first number x from there is all =
    let long = length-drop first instances in
    let same : first + (number - first) ≡ number = omega (arith, from) in
    subst P (get_or-drop first instances (number - first) x ∙ ap (λ k. get_or instances k x) same ∙ sym is)
    (all (number - first) x (omega (arith, from, there, long)))

-- numbers that count from none are as they are
pub from_none : (numbers : List ℕ) → map (λ n. 0 + n) numbers ≡ numbers
from_none [] = refl
from_none (n ∷ numbers) = let same : 0 + n ≡ n = omega arith in λ i. same i ∷ from_none numbers i

-- ---- instances after others

numbers_one : (test : Attached → Bool) (x : Attached) → numbers_from test (x ∷ []) 0 ≡ cond (test x) (0 ∷ []) []
numbers_one test x = numbers_more test [] x 0 refl

shifted_one : (a : ℕ) (b : Bool) → map (λ n. a + n) (cond b (0 ∷ []) []) ≡ cond b (a ∷ []) []
shifted_one a true = let same : a + 0 ≡ a = omega arith in ap (λ n. n ∷ []) same
shifted_one a false = refl

shifted_twice : (a b : ℕ) → b ≡ a + 1 → (numbers : List ℕ) → map (λ n. a + n) (map (λ n. 1 + n) numbers) ≡ map (λ n. b + n) numbers
shifted_twice a b next [] = refl
shifted_twice a b next (n ∷ numbers) = let same : a + (1 + n) ≡ b + n = omega (arith, next) in λ i. same i ∷ shifted_twice a b next numbers i

-- their numbers count from those before
pub numbers_append : (test : Attached → Bool) (attached more : List Attached) →
    numbers_from test (attached ++ more) 0 ≡ numbers_from test attached 0 ++ map (λ n. length attached + n) (numbers_from test more 0)
numbers_append test attached [] = ap (λ l. numbers_from test l 0) (append-nil attached) ∙ sym (append-nil (numbers_from test attached 0))
numbers_append test attached (x ∷ more) =
    let rest = numbers_from test more 0 in
    let count = length attached in
    let before = numbers_from test attached 0 in
    let next : length (attached ++ x ∷ []) ≡ count + 1 = length_push attached x in
    let own : map (λ n. count + n) (numbers_from test (x ∷ more) 0) ≡ cond (test x) (count ∷ []) [] ++ map (λ n. length (attached ++ x ∷ []) + n) rest =
    ap (map (λ n. count + n)) (numbers_append test (x ∷ []) more)
    ∙ map-append (λ n. count + n) (numbers_from test (x ∷ []) 0) (map (λ n. 1 + n) rest)
    ∙ (λ i. map (λ n. count + n) (numbers_one test x i) ++ shifted_twice count (length (attached ++ x ∷ [])) next rest i)
    ∙ ap (λ l. l ++ map (λ n. length (attached ++ x ∷ []) + n) rest) (shifted_one count (test x)) in
    ap (λ l. numbers_from test l 0) (sym (append_assoc attached (x ∷ []) more))
    ∙ numbers_append test (attached ++ x ∷ []) more
    ∙ ap (λ l. l ++ map (λ n. length (attached ++ x ∷ []) + n) rest) (numbers_more test attached x count refl)
    ∙ append_assoc before (cond (test x) (count ∷ []) []) (map (λ n. length (attached ++ x ∷ []) + n) rest)
    ∙ ap (λ l. before ++ l) (sym own)

-- none of them passes
pub numbers_none : (test : Attached → Bool) (more : List Attached) → All (λ x. test x ≡ false) more → numbers_from test more 0 ≡ []
numbers_none test [] none = refl
numbers_none test (x ∷ more) none =
    numbers_append test (x ∷ []) more
    ∙ (λ i. numbers_one test x i ++ map (λ n. 1 + n) (numbers_none test more (All-tail (λ x. test x ≡ false) x more none) i))
    ∙ ap (λ b. cond b (0 ∷ []) [] ++ []) (none 0 x (omega arith))

-- others that pass another test alike
pub numbers_alike : (test other : Attached → Bool) (attached more : List Attached) → map test attached ≡ map other more →
    numbers_from test attached 0 ≡ numbers_from other more 0
numbers_alike test other attached more same =
    let long : length attached - 0 ≡ length more - 0 =
    let a = length-map attached test in let b = length-map more other in let c = ap length same in omega arith in
    λ i. filter (λ n. get_or (same i) n false) (range_with_len 0 (long i))

-- ---- those from a number on, one after another

shifted_once : (a k n : ℕ) (b : Bool) → a + k ≡ n → map (λ m. a + m) (cond b (k ∷ []) []) ≡ cond b (n ∷ []) []
shifted_once a k n true is = ap (λ m. m ∷ []) is
shifted_once a k n false is = refl

pub past_more : (test : Attached → Bool) (instances : List InstanceType) (first number : ℕ) (x : InstanceType) →
    first ≤ number → number < length instances → x ≡ get_or instances number x →
    numbers_past test (take (number + 1) instances) first ≡ numbers_past test (take number instances) first ++ cond (test (attachment x)) (number ∷ []) []
past_more test instances first number x from there is =
    let before = drop first (take number instances) in
    let long = length-take number instances in
    let left = length-drop first (take number instances) in
    let many = length-map before attachment in
    let more : drop first (take (number + 1) instances) ≡ before ++ x ∷ [] =
    ap (drop first) (take_more instances number x there ∙ ap (λ y. take number instances ++ y ∷ []) (sym is))
    ∙ drop-append-le first (take number instances) (x ∷ []) (omega (arith, long, from, there)) in
    let count : number - first ≡ length (map attachment before) = omega (arith, long, left, many, from, there) in
    ap (map (λ n. first + n))
    (ap (λ l. numbers_from test l 0) (ap (map attachment) more ∙ map_push attachment before x)
    ∙ numbers_more test (map attachment before) (attachment x) (number - first) count)
    ∙ map-append (λ n. first + n) (numbers_from test (map attachment before) 0) (cond (test (attachment x)) ((number - first) ∷ []) [])
    ∙ ap (λ l. map (λ n. first + n) (numbers_from test (map attachment before) 0) ++ l)
    (shifted_once first (number - first) number (test (attachment x)) (omega (arith, from)))

-- lists to which one more is appended, as a test says
pub adds_one : (test : ℕ → Attached → Bool) (cells : ℕ) (instances : List InstanceType) (first number : ℕ) (x : InstanceType) (old mid new : List Listed) →
    first ≤ number → number < length instances → x ≡ get_or instances number x →
    ((cell : ℕ) → cell < cells → numbers_for cell new ≡ numbers_for cell mid ++ cond (test cell (attachment x)) (number ∷ []) []) →
    AddsInstances test cells (take number instances) first old mid → AddsInstances test cells (take (number + 1) instances) first old new
adds_one test cells instances first number x old mid new from there is appended so_far cell within =
    appended cell within
    ∙ ap (λ l. l ++ cond (test cell (attachment x)) (number ∷ []) []) (so_far cell within)
    ∙ append_assoc (numbers_for cell old) (numbers_past (test cell) (take number instances) first) (cond (test cell (attachment x)) (number ∷ []) [])
    ∙ ap (λ l. numbers_for cell old ++ l) (sym (past_more (test cell) instances first number x from there is))

-- none was added yet
pub adds_none : (test : ℕ → Attached → Bool) (cells : ℕ) (instances : List InstanceType) (first : ℕ) (old new : List Listed) → first ≤ length instances → new ≡ old →
    AddsInstances test cells (take first instances) first old new
adds_none test cells instances first old new within same cell below =
    ap (numbers_for cell) same
    ∙ sym (append-nil (numbers_for cell old))
    ∙ ap (λ l. numbers_for cell old ++ l)
    (sym (at_drop_all (λ l. map (λ n. first + n) (numbers_from (test cell) (map attachment l) 0)) (take first instances) first
    (let long = length-take first instances in omega (arith, long, within))))

-- what passes the test is one of them
pub numbers_below : (test : Attached → Bool) (attached : List Attached) → All (λ n. n < length attached) (numbers_from test attached 0)
numbers_below test attached =
    All-filter (λ n. get_or (map test attached) n false) (λ n. n < length attached) _ (range_below (length attached - 0) (length attached) (omega arith))
