-- A line that asks for an inbox leaves fewer lines. Assumes nothing.
use Rattle.std.proofs.Common.{◌≡◌, ℕ, ◌+◌, ◌<◌, cond, Option, Some, None, OnSome, is_some, arith}

nearer : {A : Type 0} (P Q : Type 0) (next : Option A) (left before : ℕ) → OnSome next (P × Q × (left < before)) → cond (is_some next) (left + 1) 0 < before + 1
nearer P Q None left before h = omega arith
nearer P Q (Some y) left before h = omega arith

pub fewer_left : {A : Type 0} (P Q : Type 0) (next was : Option A) (x : A) (left before : ℕ) → was ≡ Some x → OnSome next (P × Q × (left < before)) → cond (is_some next) (left + 1) 0 < cond (is_some was) (before + 1) 0
fewer_left P Q next None x left before e h = cc
fewer_left P Q next (Some y) x left before e h = nearer P Q next left before h
