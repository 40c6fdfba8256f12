-- What an `Info` holds, whatever room it takes: what stands beside its children, and these.
use Rattle.std.specs.Prelude.{List, [], ◌∷◌}

mutual
  -- an Info: the members beside `children`, and the children
  pub data Content (F : Type 0) : Type 0 where
    told : F → Children F → Content F

  -- the children of an Info, which are left out or listed
  pub data Children (F : Type 0) : Type 0 where
    left_out : Children F
    listed : Contents F → Children F

  -- a list of Infos
  pub data Contents (F : Type 0) : Type 0 where
    no_more : Contents F
    next : Content F → Contents F → Contents F

-- the list of Infos with these items
abbrev pub contents_of : {F : Type 0} → List (Content F) → Contents F
contents_of [] = no_more
contents_of (i ∷ is) = next i (contents_of is)
