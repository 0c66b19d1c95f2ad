-- A job's data as a list of numbers, from which the data can be read back.
use Rattle.std.proofs.Common.{◌≡◌, ℕ, zero, suc, List, ◌∷◌, refl, ap}
use Rattle.job_types.specs.declared.kind.Kind.{Kind}
use Rattle.job_types.specs.declared.kind.Kind.TheVariants.{Broadcast, Reduce, AllReduce, Scan, ExScan}
use Rattle.job_types.specs.declared.kind.Op.{Op}
use Rattle.job_types.specs.declared.kind.Op.TheVariants.{Add, Min, Max, Xor, And, Or}
use Rattle.job_types.specs.Job.{JobData}

op_number : Op → ℕ
op_number Add = 0
op_number Min = 1
op_number Max = 2
op_number Xor = 3
op_number And = 4
op_number Or = 5

op_of : ℕ → Op
op_of zero = Add
op_of (suc zero) = Min
op_of (suc (suc zero)) = Max
op_of (suc (suc (suc zero))) = Xor
op_of (suc (suc (suc (suc zero)))) = And
op_of (suc (suc (suc (suc (suc k))))) = Or

op_back : (op : Op) → op_of (op_number op) ≡ op
unfolding op_of op_number
op_back Add = refl
op_back Min = refl
op_back Max = refl
op_back Xor = refl
op_back And = refl
op_back Or = refl

-- a collective as three numbers before a list
kind_code : Kind → List ℕ → List ℕ
kind_code (Broadcast root) items = 0 ∷ 0 ∷ root ∷ items
kind_code (Reduce op root) items = 1 ∷ op_number op ∷ root ∷ items
kind_code (AllReduce op) items = 2 ∷ op_number op ∷ 0 ∷ items
kind_code (Scan op) items = 3 ∷ op_number op ∷ 0 ∷ items
kind_code (ExScan op) items = 4 ∷ op_number op ∷ 0 ∷ items

kind_of : ℕ → ℕ → ℕ → Kind
kind_of zero op root = Broadcast root
kind_of (suc zero) op root = Reduce (op_of op) root
kind_of (suc (suc zero)) op root = AllReduce (op_of op)
kind_of (suc (suc (suc zero))) op root = Scan (op_of op)
kind_of (suc (suc (suc (suc k)))) op root = ExScan (op_of op)

-- the numbers of a job's data
pub job_code : JobData → List ℕ
job_code job = job.machine ∷ job.lane ∷ kind_code job.kind job.items

-- the data of a list of numbers, or `none` if the list is too short
pub job_of_code : JobData → List ℕ → JobData
job_of_code none (machine ∷ lane ∷ kind ∷ op ∷ root ∷ items) =
    record { machine = machine; lane = lane; kind = kind_of kind op root; items = items }
job_of_code none short = none

pub job_back : (none job : JobData) → job_of_code none (job_code job) ≡ job
unfolding job_of_code job_code kind_code kind_of
job_back none job = of job.kind
  where
    made : Kind → JobData
    made kind =
        record { machine = job.machine; lane = job.lane; kind = kind; items = job.items }

    of : (kind : Kind)
        → job_of_code none (job.machine ∷ job.lane ∷ kind_code kind job.items) ≡ made kind
    of (Broadcast root) = refl
    of (Reduce op root) = ap (λ (o : Op). made (Reduce o root)) (op_back op)
    of (AllReduce op) = ap (λ (o : Op). made (AllReduce o)) (op_back op)
    of (Scan op) = ap (λ (o : Op). made (Scan o)) (op_back op)
    of (ExScan op) = ap (λ (o : Op). made (ExScan o)) (op_back op)
