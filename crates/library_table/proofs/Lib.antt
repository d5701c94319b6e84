mod ListingRows  -- What texts list, as units have it
