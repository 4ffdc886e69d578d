mod TypeNames
