-- Small programs, computed: their refusal as code, line and column, or none. Each is worked out by hand from the order of checks.
use Rattle.std.proofs.Common.{◌≡◌, ℕ, [], ◌∷◌, ◌++◌, List, map, refl, codes, Some, None, Option, Ok, Err}
use Rattle.std.specs.Option.{option_map}
use Rattle.std.specs.Result.{result_err}
use Rattle.qk_syntax.specs.Places.{start}
use Rattle.qk_syntax.specs.PlainTrees.{PlainTrees}
use Rattle.qk_syntax.specs.Reader.{free, scan, reading}
use Rattle.qk_syntax.specs.Stacks.{bottom}
use Rattle.qk_names.specs.Checks.{Checked, ◌>>=◌}
use Rattle.qk_types.specs.Elaboration.{elaborated}

abbrev Reply : Type 0
Reply = Option (ℕ × ℕ × ℕ)

abbrev reply : List ℕ → Reply
reply bytes = option_map (λ r. (r.code, r.place.line, r.place.column)) (result_err (reading (scan bytes free start) bottom >>= elaborated))

pub record Row : Type 0 where
  pub text : List ℕ
  pub want : Reply

abbrev row : List ℕ → Reply → Row
row text want = record { text = text; want = want }

-- whole texts
abbrev whole : List Row
whole =
    row (codes "") (Some (28, 1, 1))
    ∷ row (codes "(prop a)") (Some (23, 1, 1))
    ∷ row (codes "5") (Some (20, 1, 1))
    ∷ row (codes "x") (Some (20, 1, 1))
    ∷ row (codes "()") (Some (20, 1, 1))
    ∷ row (codes "(5 a)") (Some (20, 1, 1))
    ∷ row (codes "(foo a)") (Some (20, 1, 1))
    ∷ row (codes "(type)") (Some (23, 1, 1))
    ∷ row (codes "(type 5)") (Some (20, 1, 7))
    ∷ row (codes "(type Int)") (Some (21, 1, 7))
    ∷ row (codes "(type int)") (Some (21, 1, 7))
    ∷ row (codes "(type T)") (Some (27, 1, 1))
    ∷ row (codes "(fun T) (type T (A))") (Some (21, 1, 15))
    ∷ row (codes "(type T (A) (A))") (Some (21, 1, 14))
    ∷ row (codes "(type T A)") (Some (20, 1, 9))
    ∷ row (codes "(type T (5 Int))") (Some (20, 1, 9))
    ∷ row (codes "(type T ())") (Some (20, 1, 9))
    ∷ row (codes "(type T (if))") (Some (21, 1, 10))
    ∷ row (codes "(type T (A Int Int Int Int Int Int Int Int Int Int Int Int Int Int Int Int Int))") (Some (23, 1, 9))
    ∷ row (codes "(type T (A)) (type U (A))") (Some (21, 1, 23))
    ∷ row (codes "(fun f)") (Some (28, 1, 1))
    ∷ row (codes "(fun f) (prop if)") (Some (21, 1, 15))
    ∷ row (codes "(type T (T))") (Some (21, 1, 10))
    ∷ row (codes "(prop p) (prop p)") (Some (21, 1, 16))
    ∷ row (codes "(prop p 5)") (Some (20, 1, 9))
    ∷ row (codes "(prop p (forall))") (Some (23, 1, 9))
    ∷ row (codes "(prop p (forall 5))") (Some (20, 1, 17))
    ∷ row (codes "(prop p (forall ()))") (Some (23, 1, 9))
    ∷ row (codes "(prop p (check true))") (Some (20, 1, 9))
    ∷ row (codes "(prop p (forall ((x int))) 5)") (Some (23, 1, 1))
    ∷ row (codes "(prop p (forall ((a0 int) (a1 int) (a2 int) (a3 int) (a4 int) (a5 int) (a6 int) (a7 int) (a8 int) (a9 int) (a10 int) (a11 int) (a12 int) (a13 int) (a14 int) (a15 int) (a16 int))))") (Some (23, 1, 9))
    ∷ row (codes "(prop p (forall (5) (check true)))") (Some (20, 1, 18))
    ∷ row (codes "(prop p (forall ((x)) (check true)))") (Some (23, 1, 18))
    ∷ row (codes "(prop p (forall (()) (check true)))") (Some (23, 1, 18))
    ∷ row (codes "(prop p (forall ((x int no-shrink 5)) (check true)))") (Some (23, 1, 18))
    ∷ row (codes "(prop p (forall ((5 int)) (check true)))") (Some (20, 1, 19))
    ∷ row (codes "(prop p (forall ((true int)) (check true)))") (Some (21, 1, 19))
    ∷ row (codes "(prop p (forall ((x int) (x int)) (check true)))") (Some (21, 1, 27))
    ∷ row (codes "(prop p (forall ((x (commands m))) (check true)))") (Some (22, 1, 31))
    ∷ row (codes "(prop p (forall ((x (commands p))) (check true)))") (Some (20, 1, 31))
    ∷ row (codes "(prop p (forall ((x (commands))) (check true)))") (Some (23, 1, 21))
    ∷ row (codes "(prop p (forall ((x int foo)) (check true)))") (Some (20, 1, 25))
    ∷ row (codes "(prop p (forall ((x int (shrink-with))) (check true)))") (Some (23, 1, 25))
    ∷ row (codes "(prop p (forall ((x int (shrink-with f))) (check true)))") (Some (22, 1, 38))
    ∷ row (codes "(prop p (forall ((x int (shrink-with p))) (check true)))") (Some (20, 1, 38))
    ∷ row (codes "(prop p (forall ((x int (shrink-with neg))) (check true)))") (Some (22, 1, 38))
    ∷ row (codes "(prop p (forall ((x int no-shrink)) (check true)))") (None)
    ∷ row (codes "(prop p (forall ((x int) (y (choose 0 x))) (check true)))") (None)
    ∷ row (codes "(prop p (forall ((x (choose 0 y)) (y int)) (check true)))") (Some (22, 1, 31))
    ∷ row (codes "(prop p (forall ((x int (shrink-with f))) (check true))) (fun f ((x Int)) Int 0)") (Some (24, 1, 38))
    ∷ row (codes "(prop p (forall ((x int (shrink-with f))) (check true))) (fun f ((x Int)) (List Int) (nil Int))") (None)
    ∷ row (codes "(prop p (forall ((x int)) 5))") (Some (20, 1, 27))
    ∷ row (codes "(prop p (forall ((x int)) (foo)))") (Some (20, 1, 27))
    ∷ row (codes "(prop p (forall ((x int))))") (Some (23, 1, 9))
    ∷ row (codes "(prop p (forall ((x int)) (check)))") (Some (23, 1, 27))
    ∷ row (codes "(prop p (forall ((x int)) (check 5)))") (Some (24, 1, 34))
    ∷ row (codes "(prop p (forall ((x int)) (check true) (given true)))") (Some (20, 1, 40))
    ∷ row (codes "(prop p (forall ((x int)) (check true) (check true)))") (Some (20, 1, 40))
    ∷ row (codes "(prop p (forall ((x int)) (label a) (check true)))") (Some (20, 1, 27))
    ∷ row (codes "(prop p (forall ((x int)) (check true) (cover 101 y 5)))") (Some (30, 1, 47))
    ∷ row (codes "(prop p (forall ((x int)) (check true) (cover -1 y 5)))") (Some (30, 1, 47))
    ∷ row (codes "(prop p (forall ((x int)) (check true) (cover x y 5)))") (Some (20, 1, 47))
    ∷ row (codes "(prop p (forall ((x int)) (check true) (classify x 5)))") (Some (20, 1, 52))
    ∷ row (codes "(prop p (forall ((x int)) (check true) (classify x y)))") (Some (24, 1, 50))
    ∷ row (codes "(prop p (forall ((x int)) (check-runs y)))") (Some (22, 1, 39))
    ∷ row (codes "(prop p (forall ((x int)) (check-runs x)))") (Some (24, 1, 39))
    ∷ row (codes "(prop p (forall ((x int)) (check true) (label 5)))") (Some (20, 1, 47))
    ∷ row (codes "(prop p (forall ((x int)) (check true) (label true)))") (None)
    ∷ row (codes "(prop p (forall ((x int)) (given true) (given true) (given true) (given true) (given true) (given true) (given true) (given true) (given true) (given true) (given true) (given true) (given true) (given true) (given true) (given true) (given true) (check true)))") (Some (23, 1, 9))
    ∷ row (codes "(prop p (forall ((x int)) (check true) (label a) (label a) (label a) (label a) (label a) (label a) (label a) (label a) (label a) (label a) (label a) (label a) (label a) (label a) (label a) (label a) (label a)))") (Some (23, 1, 9))
    ∷ row (codes "(prop p (forall ((x int)) (given true)))") (Some (23, 1, 9))
    ∷ row (codes "(prop p (forall ((x int)) (given (< 0 x)) (check (= x x)) (collect x) (tabulate a x) (cover 0 (< x 5) b)))") (None)
    ∷ []

whole_hold : map (λ r. reply r.text) whole ≡ map (λ r. r.want) whole
whole_hold = refl

abbrev good : List ℕ
good = 10 ∷ codes "(prop p (forall ((x int)) (check (= x x))))"

-- texts before a property without fault
abbrev before : List Row
before =
    row (codes "(fun f)" ++ good) (Some (23, 1, 1))
    ∷ row (codes "(gen g () Int)" ++ good) (Some (23, 1, 1))
    ∷ row (codes "(fun f 5 Int 0)" ++ good) (Some (20, 1, 8))
    ∷ row (codes "(fun f x Int 0)" ++ good) (Some (20, 1, 8))
    ∷ row (codes "(fun f ((a0 Int) (a1 Int) (a2 Int) (a3 Int) (a4 Int) (a5 Int) (a6 Int) (a7 Int) (a8 Int) (a9 Int) (a10 Int) (a11 Int) (a12 Int) (a13 Int) (a14 Int) (a15 Int) (a16 Int)) Int 0)" ++ good) (Some (23, 1, 1))
    ∷ row (codes "(fun f (x) Int 0)" ++ good) (Some (20, 1, 9))
    ∷ row (codes "(fun f ((x)) Int 0)" ++ good) (Some (20, 1, 9))
    ∷ row (codes "(fun f ((5 Int)) Int 0)" ++ good) (Some (20, 1, 9))
    ∷ row (codes "(fun f ((true Int)) Int 0)" ++ good) (Some (21, 1, 10))
    ∷ row (codes "(fun f ((x Int) (x Int)) Int 0)" ++ good) (Some (21, 1, 18))
    ∷ row (codes "(fun f ((x 5)) Int 0)" ++ good) (Some (20, 1, 12))
    ∷ row (codes "(fun f () Foo 0)" ++ good) (Some (22, 1, 11))
    ∷ row (codes "(fun f () (List) 0)" ++ good) (Some (23, 1, 11))
    ∷ row (codes "(fun f () (Pair Int) 0)" ++ good) (Some (23, 1, 11))
    ∷ row (codes "(fun f () (Foo) 0)" ++ good) (Some (20, 1, 11))
    ∷ row (codes "(fun f () () 0)" ++ good) (Some (20, 1, 11))
    ∷ row (codes "(fun f () 5 0)" ++ good) (Some (20, 1, 11))
    ∷ row (codes "(fun f () List 0)" ++ good) (Some (22, 1, 11))
    ∷ row (codes "(fun f ((x Foo) y) Int 0)" ++ good) (Some (22, 1, 12))
    ∷ row (codes "(type T (A Foo))" ++ good) (Some (22, 1, 12))
    ∷ row (codes "(model m)" ++ good) (Some (23, 1, 1))
    ∷ row (codes "(model m 5 5 5)" ++ good) (Some (20, 1, 10))
    ∷ row (codes "(model m (command) (abstract) (system))" ++ good) (Some (23, 1, 10))
    ∷ row (codes "(model m (abstract Int 0 a b) 5 5)" ++ good) (Some (20, 1, 10))
    ∷ row (codes "(model m (command Foo g) 5 5)" ++ good) (Some (22, 1, 19))
    ∷ row (codes "(model m (command Int g) 5 5)" ++ good) (Some (20, 1, 26))
    ∷ row (codes "(fun f () Int x)" ++ good) (Some (22, 1, 15))
    ∷ row (codes "(fun f () Int if)" ++ good) (Some (20, 1, 15))
    ∷ row (codes "(fun f () Int ())" ++ good) (Some (20, 1, 15))
    ∷ row (codes "(fun f () Int (5))" ++ good) (Some (20, 1, 15))
    ∷ row (codes "(fun f () Int (int))" ++ good) (Some (20, 1, 15))
    ∷ row (codes "(fun f () Int (foo 1))" ++ good) (Some (22, 1, 16))
    ∷ row (codes "(fun f () Int (neg))" ++ good) (Some (23, 1, 15))
    ∷ row (codes "(fun f () Int (+ x))" ++ good) (Some (23, 1, 15))
    ∷ row (codes "(fun f () Int (+ true x))" ++ good) (Some (22, 1, 23))
    ∷ row (codes "(fun f () Int (+ true 1))" ++ good) (Some (24, 1, 18))
    ∷ row (codes "(fun f () Int (if 1 2 3))" ++ good) (Some (24, 1, 19))
    ∷ row (codes "(fun f () Int (if true 1 true))" ++ good) (Some (24, 1, 26))
    ∷ row (codes "(fun f () Int true)" ++ good) (Some (24, 1, 15))
    ∷ row (codes "(fun f () Int (let 5 1 1))" ++ good) (Some (20, 1, 20))
    ∷ row (codes "(fun f () Int (let true 1 1))" ++ good) (Some (21, 1, 20))
    ∷ row (codes "(fun f () Int (let x 1 x))" ++ good) (None)
    ∷ row (codes "(fun f () Int (let if 1 if))" ++ good) (None)
    ∷ row (codes "(fun f () Int (let v 1 (v 1)))" ++ good) (Some (22, 1, 25))
    ∷ row (codes "(fun f () Int (let x 1 (let x true x)))" ++ good) (Some (24, 1, 15))
    ∷ row (codes "(fun f () Int (length 5))" ++ good) (Some (24, 1, 23))
    ∷ row (codes "(fun f () Int (length (nil Foo)))" ++ good) (Some (22, 1, 28))
    ∷ row (codes "(fun f () Int (length (cons 1 (nil Bool))))" ++ good) (Some (24, 1, 31))
    ∷ row (codes "(fun f () Int (match))" ++ good) (Some (23, 1, 15))
    ∷ row (codes "(fun f () Int (match 5))" ++ good) (Some (24, 1, 15))
    ∷ row (codes "(fun f () Int (match 5 x))" ++ good) (Some (24, 1, 15))
    ∷ row (codes "(fun f () Int (match (nil Int)))" ++ good) (Some (25, 1, 15))
    ∷ row (codes "(fun f () Int (match (nil Int) 5))" ++ good) (Some (20, 1, 32))
    ∷ row (codes "(fun f () Int (match (nil Int) ((nil) 0)))" ++ good) (Some (25, 1, 15))
    ∷ row (codes "(fun f () Int (match (nil Int) ((nil) 0) ((nil) 0)))" ++ good) (Some (26, 1, 43))
    ∷ row (codes "(fun f () Int (match (nil Int) ((foo) 0)))" ++ good) (Some (22, 1, 34))
    ∷ row (codes "(fun f () Int (match (nil Int) ((pair x y) 0)))" ++ good) (Some (24, 1, 33))
    ∷ row (codes "(fun f () Int (match (nil Int) ((if x) 0)))" ++ good) (Some (24, 1, 33))
    ∷ row (codes "(fun f () Int (match (nil Int) ((nil x) 0)))" ++ good) (Some (23, 1, 33))
    ∷ row (codes "(fun f () Int (match (nil Int) ((cons x x) 0)))" ++ good) (Some (21, 1, 41))
    ∷ row (codes "(fun f () Int (match (nil Int) ((cons 5 x) 0)))" ++ good) (Some (20, 1, 39))
    ∷ row (codes "(fun f () Int (match (nil Int) ((nil) 0) ((cons x y) true)))" ++ good) (Some (24, 1, 54))
    ∷ row (codes "(fun f () Int (match (nil Int) ((nil))))" ++ good) (Some (20, 1, 32))
    ∷ row (codes "(fun f () Int (match (nil Int) ((nil) (foo))))" ++ good) (Some (22, 1, 40))
    ∷ row (codes "(fun f () Int (match (nil Int) ((cons x y) x) ((nil) 0)))" ++ good) (None)
    ∷ row (codes "(gen g () Int 5)" ++ good) (Some (20, 1, 15))
    ∷ row (codes "(gen g () Int foo)" ++ good) (Some (22, 1, 15))
    ∷ row (codes "(gen g () Int if)" ++ good) (Some (20, 1, 15))
    ∷ row (codes "(gen g () Int (choose 1))" ++ good) (Some (23, 1, 15))
    ∷ row (codes "(gen g () Int (choose 1 true))" ++ good) (Some (24, 1, 25))
    ∷ row (codes "(gen g () Int (elements))" ++ good) (Some (23, 1, 15))
    ∷ row (codes "(gen g () Int (oneof))" ++ good) (Some (23, 1, 15))
    ∷ row (codes "(gen g () Int (frequency))" ++ good) (Some (23, 1, 15))
    ∷ row (codes "(gen g () Int (elements 1 true))" ++ good) (Some (24, 1, 27))
    ∷ row (codes "(gen g () Int (oneof int bool))" ++ good) (Some (24, 1, 26))
    ∷ row (codes "(gen g () Int (frequency 5))" ++ good) (Some (20, 1, 26))
    ∷ row (codes "(gen g () Int (frequency (1)))" ++ good) (Some (23, 1, 26))
    ∷ row (codes "(gen g () Int (frequency (x int)))" ++ good) (Some (20, 1, 27))
    ∷ row (codes "(gen g () Int (frequency (1000001 int)))" ++ good) (Some (29, 1, 27))
    ∷ row (codes "(gen g () Int (frequency (-1 int)))" ++ good) (Some (29, 1, 27))
    ∷ row (codes "(gen g () Int (frequency (0 int) (0 bool)))" ++ good) (Some (29, 1, 15))
    ∷ row (codes "(gen g () Int (frequency (1 int) (0 bool)))" ++ good) (Some (24, 1, 37))
    ∷ row (codes "(gen g () Int (frequency (1 int) (1000000 size)))" ++ good) (None)
    ∷ row (codes "(gen g () Int bool)" ++ good) (Some (24, 1, 15))
    ∷ row (codes "(gen g () Int (commands m))" ++ good) (Some (20, 1, 15))
    ∷ row (codes "(gen g () Int commands)" ++ good) (Some (20, 1, 15))
    ∷ row (codes "(gen g () Int (bind x int (pure x)))" ++ good) (None)
    ∷ row (codes "(gen g () Int (bind 5 int int))" ++ good) (Some (20, 1, 21))
    ∷ row (codes "(gen g () Int (resize true int))" ++ good) (Some (24, 1, 23))
    ∷ row (codes "(gen g () Int (g 1))" ++ good) (Some (23, 1, 15))
    ∷ row (codes "(gen g () Int (if true int int))" ++ good) (Some (20, 1, 15))
    ∷ row (codes "(gen g () Int (vector 1 int))" ++ good) (Some (24, 1, 15))
    ∷ []

before_hold : map (λ r. reply r.text) before ≡ map (λ r. r.want) before
before_hold = refl

abbrev parts : List ℕ
parts = 10 ∷ codes "(type Cmd (Inc)) (gen g ((s Int)) Cmd (Inc)) (fun pre ((s Int) (c Cmd)) Bool true) (fun next ((s Int) (c Cmd)) Int (+ s 1)) (fun step ((r Int) (c Cmd)) Int (if (= r 2) 2 (+ r 1))) (fun post ((s Int) (c Cmd) (r Int)) Bool (= s r)) "

abbrev uses : List ℕ
uses = codes " (prop a (forall ((cs (commands m))) (check-runs cs)))" ++ parts

-- models before the declarations that they name, and a property of their commands
abbrev models : List Row
models =
    row (codes "(model m (command Cmd g) (abstract Int 0 pre next) (system Int 0 step post))" ++ uses) (None)
    ∷ row (codes "(model m (command Cmd foo) (abstract Int 0 pre next) (system Int 0 step post))" ++ uses) (Some (22, 1, 23))
    ∷ row (codes "(model m (command Cmd bool) (abstract Int 0 pre next) (system Int 0 step post))" ++ uses) (Some (22, 1, 23))
    ∷ row (codes "(model m (command Cmd pre) (abstract Int 0 pre next) (system Int 0 step post))" ++ uses) (Some (20, 1, 23))
    ∷ row (codes "(model m (command Cmd 5) (abstract Int 0 pre next) (system Int 0 step post))" ++ uses) (Some (20, 1, 23))
    ∷ row (codes "(model m (command Cmd g) (abstract Int true pre next) (system Int 0 step post))" ++ uses) (Some (24, 1, 40))
    ∷ row (codes "(model m (command Cmd g) (abstract Int 0 next next) (system Int 0 step post))" ++ uses) (Some (24, 1, 42))
    ∷ row (codes "(model m (command Cmd g) (abstract Int 0 pre next) (system Int true step post))" ++ uses) (Some (24, 1, 64))
    ∷ row (codes "(model m (command Cmd g) (abstract Int 0 pre next) (system Int 0 pre post))" ++ uses) (Some (24, 1, 66))
    ∷ row (codes "(model m (command Cmd g) (abstract Int 0 pre (next)) (system Int 0 step post))" ++ uses) (Some (20, 1, 46))
    ∷ row (codes "(model m (command Cmd g) (abstract Bool 0 pre next) (system Int 0 step post))" ++ uses) (Some (24, 1, 23))
    ∷ []

models_hold : map (λ r. reply r.text) models ≡ map (λ r. r.want) models
models_hold = refl

-- ordered trees, and a queue of two lists
abbrev realistic : List ℕ
realistic =
    codes "; ordered trees and a queue of two lists"
    ++ 10 ∷ codes "(type Tree (Leaf) (Node Tree Int Tree))"
    ++ 10 ∷ codes "(fun insert ((x Int) (t Tree)) Tree"
    ++ 10 ∷ codes "  (match t"
    ++ 10 ∷ codes "    ((Leaf) (Node (Leaf) x (Leaf)))"
    ++ 10 ∷ codes "    ((Node l y r)"
    ++ 10 ∷ codes "      (if (< x y) (Node (insert x l) y r)"
    ++ 10 ∷ codes "        (if (< y x) (Node l y (insert x r)) t)))))"
    ++ 10 ∷ codes "(fun build ((xs (List Int))) Tree"
    ++ 10 ∷ codes "  (match xs ((nil) (Leaf)) ((cons x rest) (insert x (build rest)))))"
    ++ 10 ∷ codes "(fun flat ((t Tree)) (List Int)"
    ++ 10 ∷ codes "  (match t ((Leaf) (nil Int))"
    ++ 10 ∷ codes "    ((Node l x r) (append (flat l) (cons x (flat r))))))"
    ++ 10 ∷ codes "(fun rising ((xs (List Int))) Bool"
    ++ 10 ∷ codes "  (match xs ((nil) true)"
    ++ 10 ∷ codes "    ((cons x rest) (match rest ((nil) true)"
    ++ 10 ∷ codes "      ((cons y more) (and (< x y) (rising rest)))))))"
    ++ 10 ∷ codes "(gen tree () Tree (bind xs (list int) (pure (build xs))))"
    ++ 10 ∷ codes "(prop ordered (forall ((t (tree)) (x int))"
    ++ 10 ∷ codes "  (given (rising (flat t)))"
    ++ 10 ∷ codes "  (check (rising (flat (insert x t))))"
    ++ 10 ∷ codes "  (classify (= t (Leaf)) empty)"
    ++ 10 ∷ codes "  (cover 1 (not (= t (Leaf))) nonempty)))"
    ++ 10 ∷ codes "(type Cmd (Put Int) (Take))"
    ++ 10 ∷ codes "(fun pre ((s (List Int)) (c Cmd)) Bool"
    ++ 10 ∷ codes "  (match c ((Put x) true) ((Take) (< 0 (length s)))))"
    ++ 10 ∷ codes "(fun next ((s (List Int)) (c Cmd)) (List Int)"
    ++ 10 ∷ codes "  (match c ((Put x) (append s (cons x (nil Int))))"
    ++ 10 ∷ codes "    ((Take) (match s ((nil) s) ((cons h t) t)))))"
    ++ 10 ∷ codes "(fun rev ((xs (List Int)) (acc (List Int))) (List Int)"
    ++ 10 ∷ codes "  (match xs ((nil) acc) ((cons h t) (rev t (cons h acc)))))"
    ++ 10 ∷ codes "(fun step ((q (Pair (List Int) (List Int))) (c Cmd)) (Pair (List Int) (List Int))"
    ++ 10 ∷ codes "  (match q ((pair f b) (match c"
    ++ 10 ∷ codes "    ((Put x) (pair f (cons x b)))"
    ++ 10 ∷ codes "    ((Take) (match f"
    ++ 10 ∷ codes "      ((cons h t) (pair t b))"
    ++ 10 ∷ codes "      ((nil) (match (rev b (nil Int))"
    ++ 10 ∷ codes "        ((nil) q)"
    ++ 10 ∷ codes "        ((cons h t) (pair t (nil Int)))))))))))"
    ++ 10 ∷ codes "(fun post ((s (List Int)) (c Cmd) (q (Pair (List Int) (List Int)))) Bool"
    ++ 10 ∷ codes "  (match q ((pair f b) (= s (append f (rev b (nil Int)))))))"
    ++ 10 ∷ codes "(gen cmd ((s (List Int))) Cmd (frequency (3 (Put int)) (1 (Take))))"
    ++ 10 ∷ codes "(model queue (command Cmd cmd)"
    ++ 10 ∷ codes "  (abstract (List Int) (nil Int) pre next)"
    ++ 10 ∷ codes "  (system (Pair (List Int) (List Int)) (pair (nil Int) (nil Int)) step post))"
    ++ 10 ∷ codes "(prop queue-ok (forall ((cs (commands queue))) (check-runs cs)))"

realistic_holds : reply realistic ≡ None
realistic_holds = refl
