-- What is asked of a disk.
use Rattle.std.specs.Prelude.{ℕ, List}

-- a request to a disk, with arguments as a program gave them, or after they were judged
pub data DiskCall (N : Type 0) : Type 0 where
  ReadCall : (file : List ℕ) (offset count : N) → DiskCall N
  WriteCall : (file : List ℕ) (offset : N) (text : List ℕ) → DiskCall N
  SyncCall : (file : List ℕ) → DiskCall N
  SizeCall : (file : List ℕ) → DiskCall N
