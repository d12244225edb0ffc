-- What is asked of etcd's JSON gateway (etcd 3.4, api/v3 rpc.proto): keys and values are base64,
-- numbers of 64 bits are strings.
use Rattle.std.specs.Prelude.{ℕ, List, ◌++◌, codes}
use Rattle.std.specs.Fmt.{decimal}

-- the owner's key stands at this revision, which is 0 where the key is not there; then this is done
abbrev pub compare_text : List ℕ → ℕ → List ℕ
compare_text owner fence =
    codes "{\"compare\":[{\"key\":\"" ++ owner
    ++ codes "\",\"target\":\"MOD\",\"result\":\"EQUAL\",\"mod_revision\":\"" ++ decimal fence
    ++ codes "\"}],\"success\":["

-- a key is put
abbrev pub put_part : List ℕ → List ℕ → List ℕ
put_part key value =
    codes "{\"request_put\":{\"key\":\"" ++ key ++ codes "\",\"value\":\"" ++ value ++ codes "\"}}"

-- the keys of a range are counted
abbrev pub count_part : List ℕ → List ℕ → List ℕ
count_part first end_ =
    codes ",{\"request_range\":{\"key\":\"" ++ first ++ codes "\",\"range_end\":\"" ++ end_
    ++ codes "\",\"count_only\":true}}"

-- nothing is done where it does not stand there
abbrev pub else_part : List ℕ
else_part = codes "],\"failure\":[]}"

-- a row is put where the owner's key stands at this revision
unfoldable pub put_text : List ℕ → ℕ → List ℕ → List ℕ → List ℕ
put_text owner fence row body = compare_text owner fence ++ put_part row body ++ else_part

-- the owner's key is put where it stands at this revision, and the rows are counted
unfoldable pub take_text : List ℕ → ℕ → List ℕ → List ℕ → List ℕ → List ℕ
take_text owner fence token first end_ =
    compare_text owner fence ++ put_part owner token ++ count_part first end_ ++ else_part

-- one key is asked for
abbrev pub key_text : List ℕ → List ℕ
key_text key = codes "{\"key\":\"" ++ key ++ codes "\"}"
